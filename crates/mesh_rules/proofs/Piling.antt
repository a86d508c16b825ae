-- In a pile whose layers share one limit only the lowest layer names a fault: what it hands on is accepted by all above it.
use Rattle.std.proofs.Common.{◌≡◌, ℕ, ◌≤◌, List, [], ◌∷◌, None, Some, Option, sym, refl, ap, ◌∙◌, subst}
use Rattle.mesh_stream.specs.declared.event.Event.{Event}
use Rattle.mesh_stream.specs.declared.fault.LayerName.{LayerName}
use Rattle.mesh_stream.specs.declared.stage.Standing.{Standing}
use Rattle.mesh_stream.specs.declared.stage.Standing.TheVariants.{Waiting, Ended, Faulty}
use Rattle.mesh_stream.specs.Live.{live, width}
use Rattle.mesh_stream.specs.Meaning.{Outcome, outcome}
use Rattle.mesh_judge.specs.Accepting.{refusal, accepted, Accepted, Stop, stop_after, end_with, stands_over, stands_by, judged}
use Rattle.mesh_judge.proofs.Splitting.{judged_all}
use Rattle.mesh_rules.specs.Piling.{Rule, name_of, rewritten, rewrite, pile, rewritten_by_all}
use Rattle.mesh_rules.specs.RuleLaws.{PileLaws}
use Rattle.mesh_rules.proofs.Bounding.{never_wider}
use Rattle.mesh_rules.proofs.Beginnings.{accepted_ok, not_stopped, all_accepted}
use Rattle.mesh_rules.proofs.Layers.{rewritten_accepted, rewritten_none_live}

IsEnded : Standing → Type 0
IsEnded Waiting = ⊥
IsEnded Ended = Unit {0}
IsEnded (Faulty f) = ⊥

-- Accepted, and ended only with no vertex live.
record Proper (limit : ℕ) (o : Outcome Event) : Type 0 where
  pub ok : Accepted (refusal limit) o.items
  pub over : o.stands ≡ Ended → live o.items ≡ []

ended_none : (layer : LayerName) (es : List Event) (ns : List ℕ) → IsEnded (end_with layer es ns) → ns ≡ []
unfolding IsEnded
ended_none layer es [] h = refl
ended_none layer es (n ∷ ns) h = absurd h

-- What judges ends only where it accepted all, and no vertex is live.
ended_by : (layer : LayerName) (o : Option Stop) (es : List Event) (s : Standing) → IsEnded (stands_by layer o es s)
    → (o ≡ None) × (live es ≡ [])
unfolding IsEnded
ended_by layer (Some z) es s h = absurd h
ended_by layer None es Waiting h = absurd h
ended_by layer None es Ended h = (refl, ended_none layer es (live es) h)
ended_by layer None es (Faulty f) h = absurd h

is_ended : (s : Standing) → s ≡ Ended → IsEnded s
unfolding IsEnded
is_ended s e = subst IsEnded (sym e) tt

judged_proper : (limit : ℕ) (layer : LayerName) (o : Outcome Event) → Proper limit (judged layer (refusal limit) o)
judged_proper limit layer o = record {
  ok = accepted_ok (refusal limit) o.items;
  over = λ e.
      let k = ended_by layer (stop_after (refusal limit) [] o.items) o.items o.stands (is_ended _ e) in
      ap live (all_accepted (refusal limit) o.items (not_stopped (refusal limit) o.items [] k.0)) ∙ k.1;
}

stands_same : (layer : LayerName) (es : List Event) (s : Standing) → (s ≡ Ended → live es ≡ []) → stands_over layer es s ≡ s
stands_same layer es Waiting h = refl
stands_same layer es Ended h = ap (end_with layer es) (h refl)
stands_same layer es (Faulty f) h = refl

judged_again : (limit : ℕ) (layer : LayerName) (o : Outcome Event) → Proper limit o → judged layer (refusal limit) o ≡ o
judged_again limit layer o p =
    judged_all (refusal limit) layer o.items p.ok o.stands ∙ ap (outcome o.items) (stands_same layer o.items o.stands p.over)

rewrite_proper : (limit : ℕ) (r : Rule) (o : Outcome Event) → Proper limit o → Proper limit (rewrite r o)
rewrite_proper limit r o p = record {
  ok = rewritten_accepted r limit o.items p.ok;
  over = λ e. rewritten_none_live r limit o.items p.ok (p.over e);
}

pile_proper : (limit : ℕ) (rs : List Rule) (o : Outcome Event) → Proper limit o
    → pile limit rs o ≡ outcome (rewritten_by_all rs o.items) o.stands
pile_proper limit [] o p = refl
pile_proper limit (r ∷ rs) o p =
    ap (λ (z : Outcome Event). pile limit rs (rewrite r z)) (judged_again limit (name_of r) o p)
    ∙ pile_proper limit rs (rewrite r o) (rewrite_proper limit r o p)

pub by_all_accepted : (rs : List Rule) (limit : ℕ) (es : List Event) → Accepted (refusal limit) es
    → Accepted (refusal limit) (rewritten_by_all rs es)
by_all_accepted [] limit es h = h
by_all_accepted (r ∷ rs) limit es h = by_all_accepted rs limit (rewritten r es) (rewritten_accepted r limit es h)

pub by_all_none_live : (rs : List Rule) (limit : ℕ) (es : List Event) → Accepted (refusal limit) es
    → live es ≡ [] → live (rewritten_by_all rs es) ≡ []
by_all_none_live [] limit es h e = e
by_all_none_live (r ∷ rs) limit es h e =
    by_all_none_live rs limit (rewritten r es) (rewritten_accepted r limit es h) (rewritten_none_live r limit es h e)

module _ (limit : ℕ) (r : Rule) (rs : List Rule) (bottom : Outcome Event) where
  pub pile_is : pile limit (r ∷ rs) bottom
      ≡ outcome (rewritten_by_all (r ∷ rs) (accepted (refusal limit) bottom.items)) (judged (name_of r) (refusal limit) bottom).stands
  pile_is =
      let below = judged (name_of r) (refusal limit) bottom in
      pile_proper limit rs (rewrite r below) (rewrite_proper limit r below (judged_proper limit (name_of r) bottom))

  items_are : (pile limit (r ∷ rs) bottom).items ≡ rewritten_by_all (r ∷ rs) (accepted (refusal limit) bottom.items)
  items_are = ap (λ (o : Outcome Event). o.items) pile_is

  pub pile_laws : PileLaws limit r rs bottom
  pile_laws =
      let taken = accepted (refusal limit) bottom.items in
      let ok : Accepted (refusal limit) taken = accepted_ok (refusal limit) bottom.items in
      let narrow = never_wider (rewritten_by_all (r ∷ rs)) limit taken (λ k. by_all_accepted (r ∷ rs) k taken) ok in
      record {
        whole_mesh = pile_is;
        stays_accepted = subst (Accepted (refusal limit)) (sym items_are) (by_all_accepted (r ∷ rs) limit taken ok);
        no_wider = subst (λ (z : List Event). width z ≤ width taken) (sym items_are) narrow;
        none_live = λ e. ap live items_are ∙ by_all_none_live (r ∷ rs) limit taken ok e;
      }
