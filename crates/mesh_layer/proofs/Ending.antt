-- After a next that answered ended nothing more comes, whatever is called; and what that says of the lists below.
use Rattle.std.proofs.Common.{◌≡◌, ℕ, true, false, List, [], ◌∷◌, ◌++◌, take, length, Ok, Err, Some, None, Option, sym, refl, ap, ◌∙◌, subst}
use Rattle.std.proofs.lemmas.Bool.{both_ways}
use Rattle.mesh_stream.specs.declared.event.Event.{Event}
use Rattle.mesh_stream.specs.declared.fault.LayerName.{LayerName}
use Rattle.mesh_stream.specs.declared.stage.Standing.{Standing}
use Rattle.mesh_stream.specs.declared.stage.Standing.TheVariants.{Waiting, Ended, Faulty}
use Rattle.mesh_stream.specs.Live.{live}
use Rattle.mesh_stream.specs.Meaning.{Mark, unclosed, closed, Outcome, outcome, prepend, IsWaiting}
use Rattle.mesh_stream.specs.Runs.{View, Call, feeds, closes, asks, Step, Run}
use Rattle.mesh_judge.specs.Accepting.{Rules, accepted, Stop, stop_after, end_with, stands_over, stands_by, judged}
use Rattle.mesh_rules.proofs.Beginnings.{not_stopped, all_accepted}
use Rattle.mesh_layer.specs.Law.{has_ended}

abbrev pub IsOver : View Event → Type 0
IsOver v = (t : List ℕ) (m : Mark) → v.means t m ≡ outcome [] Ended

count_of : Outcome Event → ℕ
count_of o = length o.items

not_both : (e : Event) (o : Outcome Event) → prepend e o ≡ outcome [] Ended → ⊥
unfolding count_of
not_both e o h = let z : length (e ∷ o.items) ≡ length {A = Event} [] = ap count_of h in cc

step_over : (v w : View Event) (c : Call Event) → Step v c w → IsOver v → IsOver w
step_over v w (feeds piece (Ok k)) s h t m = s.behind t m ∙ h (take k piece ++ t) m
step_over v w (feeds piece (Err x)) s h t m = s.same t m ∙ h t m
step_over v w (closes (Ok k)) s h t m = s.final t m ∙ h [] closed
step_over v w (closes (Err x)) s h t m = s.same t m ∙ h t m
step_over v w (asks (Ok e)) s h t m = absurd (not_both e (w.means [] unclosed) (sym (s.first [] unclosed) ∙ h [] unclosed))
step_over v w (asks (Err x)) s h t m = s.same t m ∙ h t m

run_over : (cs : List (Call Event)) (v w : View Event) → Run v cs w → IsOver v → IsOver w
run_over [] v w r h = λ t m. ap (λ (z : View Event). z.means t m) r ∙ h t m
run_over (c ∷ cs) v w (u, s, r) h = run_over cs u w r (step_over v u c s h)

pub ended_is_over : (cs : List (Call Event)) (v w : View Event) → Run v cs w → has_ended cs ≡ true → IsOver w
ended_is_over [] v w r h = absurd (both_ways false refl h)
ended_is_over (feeds piece x ∷ cs) v w (u, s, r) h = ended_is_over cs u w r h
ended_is_over (closes x ∷ cs) v w (u, s, r) h = ended_is_over cs u w r h
ended_is_over (asks (Ok e) ∷ cs) v w (u, s, r) h = ended_is_over cs u w r h
ended_is_over (asks (Err Waiting) ∷ cs) v w (u, s, r) h = ended_is_over cs u w r h
ended_is_over (asks (Err (Faulty f)) ∷ cs) v w (u, s, r) h = ended_is_over cs u w r h
ended_is_over (asks (Err Ended) ∷ cs) v w (u, s, r) h = run_over cs u w r over
  where
    now : u.means [] unclosed ≡ outcome [] Ended
    now = s.same [] unclosed ∙ s.none

    over : IsOver u
    over t m = u.lawful.settled (λ i. subst IsWaiting (ap (λ (o : Outcome Event). o.stands) now) i) t m ∙ now

-- What judged a list and ended accepted all of it, and it leaves no vertex live.
module _ (rules : Rules) (layer : LayerName) where
  no_live : (es : List Event) (ns : List ℕ) → end_with layer es ns ≡ Ended → ns ≡ []
  no_live es [] h = refl
  no_live es (n ∷ ns) h = cc

  over_ended : (es : List Event) (below : Standing) → stands_over layer es below ≡ Ended → live es ≡ []
  over_ended es Waiting h = cc
  over_ended es Ended h = no_live es (live es) h
  over_ended es (Faulty f) h = cc

  pub ended_leaves_none : (o : Outcome Event) → (judged layer rules o).stands ≡ Ended → live (accepted rules o.items) ≡ []
  ended_leaves_none o h = at (stop_after rules [] o.items) refl h
    where
      at : (s : Option Stop) → stop_after rules [] o.items ≡ s → stands_by layer s o.items o.stands ≡ Ended
          → live (accepted rules o.items) ≡ []
      at None e k = ap live (all_accepted rules o.items (not_stopped rules o.items [] e)) ∙ over_ended o.items o.stands k
      at (Some s) e k = cc
