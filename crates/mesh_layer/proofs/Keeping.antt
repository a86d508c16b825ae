-- Every run from a pile keeps the law.
use Rattle.std.proofs.Common.{◌≡◌, ℕ, ◌≤◌, true, List, [], ◌∷◌, ◌++◌, sym, refl, ap, ◌∙◌, subst, append-nil, arith}
use Rattle.mesh_stream.specs.declared.event.Event.{Event}
use Rattle.mesh_stream.specs.declared.stage.Standing.TheVariants.{Ended}
use Rattle.mesh_stream.specs.Live.{live, width}
use Rattle.mesh_stream.specs.Meaning.{Mark, unclosed, Outcome, outcome, Meaning}
use Rattle.mesh_stream.specs.Runs.{View, Call, Run, handed, prepends}
use Rattle.mesh_judge.specs.Accepting.{refusal, Accepted, accepted}
use Rattle.mesh_rules.specs.Piling.{Rule, name_of, through, pile, lowest_stands}
use Rattle.mesh_rules.proofs.Beginnings.{accepted_parts}
use Rattle.mesh_rules.proofs.Piling.{pile_laws}
use Rattle.mesh_layer.specs.Layering.{Made}
use Rattle.mesh_layer.specs.Law.{whole, Follows, Piled, has_ended, ClosedOff, layers, bottom_outcome, Law, PutOn}
use Rattle.mesh_layer.proofs.Following.{whole_left, follows}
use Rattle.mesh_layer.proofs.Handed.{well_formed, closed_off, width_front}
use Rattle.mesh_layer.proofs.Ending.{ended_is_over, ended_leaves_none}

-- What a pile of one layer at least does to a list.
record Facts (limit : ℕ) (rules : List Rule) (bottom : Outcome Event) : Type 0 where
  stays_accepted : Accepted (refusal limit) (pile limit rules bottom).items
  no_wider : width (pile limit rules bottom).items ≤ width (accepted (refusal limit) bottom.items)
  stands : (pile limit rules bottom).stands ≡ lowest_stands limit rules bottom
  none_live : (pile limit rules bottom).stands ≡ Ended → live (pile limit rules bottom).items ≡ []

facts_from : (limit : ℕ) (r : Rule) (rs : List Rule) (bottom : Outcome Event) → Facts limit (r ∷ rs) bottom
facts_from limit r rs bottom =
    let l = pile_laws limit r rs bottom in
    let s = ap (λ (o : Outcome Event). o.stands) l.whole_mesh in
    record {
      stays_accepted = l.stays_accepted;
      no_wider = l.no_wider;
      stands = s;
      none_live = λ e. l.none_live (ended_leaves_none (refusal limit) (name_of r) bottom (sym s ∙ e));
    }

facts : (limit : ℕ) (lower : List Rule) (top : Rule) (bottom : Outcome Event) → Facts limit (lower ++ (top ∷ [])) bottom
facts limit [] top bottom = facts_from limit top [] bottom
facts limit (r ∷ rs) top bottom = facts_from limit r (rs ++ (top ∷ [])) bottom

module _ (limit : ℕ) (lower : List Rule) (top : Rule) (G : Meaning Event) (v w : View Event) (cs : List (Call Event))
    (p : Piled limit (layers limit lower top G) G v) (r : Run v cs w) where
  fact : Facts limit (lower ++ (top ∷ [])) (bottom_outcome limit lower top G cs w)
  fact = facts limit lower top (bottom_outcome limit lower top G cs w)

  abbrev by_layers : Outcome Event → Outcome Event
  by_layers = pile limit (layers limit lower top G)

  -- what is left of the whole-mesh list
  now_left : whole by_layers G cs w ≡ prepends (handed cs) (w.means [] unclosed)
  now_left = whole_left by_layers G v p cs w r

  handed_accepted : Accepted (refusal limit) (handed cs)
  handed_accepted =
      (accepted_parts (refusal limit) (handed cs) (w.means [] unclosed).items []
      (subst (λ (o : Outcome Event). Accepted (refusal limit) o.items) now_left fact.stays_accepted)).0

  closed : has_ended cs ≡ true → ClosedOff (handed cs)
  closed h =
      let over = ended_is_over cs v w r h [] unclosed in
      let e : whole by_layers G cs w ≡ outcome (handed cs) Ended =
      now_left ∙ ap (prepends (handed cs)) over ∙ ap (λ (z : List Event). outcome z Ended) (append-nil (handed cs)) in
      closed_off limit (handed cs) handed_accepted (ap (λ (o : Outcome Event). live o.items) (sym e) ∙ fact.none_live (ap (λ (o : Outcome Event). o.stands) e))

  narrow : width (handed cs) ≤ width (accepted (refusal limit) (bottom_outcome limit lower top G cs w).items)
  narrow =
      let a = width_front (handed cs) (w.means [] unclosed).items [] in
      let b = subst (λ (o : Outcome Event). width o.items ≤ width (accepted (refusal limit) (bottom_outcome limit lower top G cs w).items)) now_left fact.no_wider in
      omega arith

pub keeps_law : (limit : ℕ) (lower : List Rule) (top : Rule) (G : Meaning Event) (v : View Event)
    → Piled limit (layers limit lower top G) G v → Law limit lower top G v
keeps_law limit lower top G v p cs w r =
    let f : Follows (pile limit (layers limit lower top G)) G cs w = follows (pile limit (layers limit lower top G)) G v p cs w r in
    record {
      follows = f;
      well_formed = well_formed limit (handed cs) (handed_accepted limit lower top G v w cs p r);
      closed_off = closed limit lower top G v w cs p r;
      no_wider = narrow limit lower top G v w cs p r;
      stands_as_lowest = λ s i. (f.used_up s i).1 ∙ (fact limit lower top G v w cs p r).stands;
    }

-- One layer more on a pile.
pile_more : (limit : ℕ) (lower : List Rule) (rule : Rule) (o : Outcome Event)
    → pile limit (lower ++ (rule ∷ [])) o ≡ through limit rule (pile limit lower o)
pile_more limit [] rule o = refl
pile_more limit (r ∷ rs) rule o = pile_more limit rs rule (through limit r o)

-- A layer that does what the rule says.
pub put_on : (limit : ℕ) (rule : Rule) (F : Outcome Event → Outcome Event) (v w : View Event) → Made F v w
    → ((o : Outcome Event) → F o ≡ through limit rule o) → PutOn limit rule v w
put_on limit rule F v w made does = record {
  port_same = made.port_same;
  by_rule = by_rule;
  piled = piled;
  law = λ lower G p. keeps_law limit lower rule G w (piled lower G p);
}
  where
    by_rule : (t : List ℕ) (m : Mark) → w.means t m ≡ through limit rule (v.means t m)
    by_rule t m = made.means t m ∙ does (v.means t m)

    piled : (lower : List Rule) (G : Meaning Event) → Piled limit lower G v → Piled limit (lower ++ (rule ∷ [])) G w
    piled lower G p t m = by_rule t m ∙ ap (through limit rule) (p t m) ∙ sym (pile_more limit lower rule (G t m))
