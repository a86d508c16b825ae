-- A border list that was put on a stage keeps the law on runs, and stands as its definition says.
use Rattle.std.proofs.Common.{◌≡◌, ℕ, List, [], ◌∷◌, ◌++◌, sym, ap, ◌∙◌, subst}
use Rattle.mesh_stream.specs.declared.event.Event.{Event}
use Rattle.mesh_stream.specs.Meaning.{Mark, Outcome, Meaning}
use Rattle.mesh_stream.specs.Runs.{View}
use Rattle.mesh_rules.specs.Piling.{Rule, lowest_stands}
use Rattle.mesh_layer.specs.Law.{MakesOf, Piled}
use Rattle.mesh_layer.specs.Layering.{Made}
use Rattle.mesh_layer.proofs.Following.{follows}
use Rattle.mesh_edges.specs.declared.edge.Edge.{Edge}
use Rattle.mesh_edges.specs.Bordering.{bordered}
use Rattle.mesh_border.specs.BorderLaw.{border_of, BorderOn}
use Rattle.mesh_border.proofs.Standing.{AsGivenOrOwnFault, border_stands}

pub border_on : (limit most : ℕ) (F : Outcome Event → Outcome Edge) (v : View Event) (w : View Edge) → Made F v w
    → ((o : Outcome Event) → F o ≡ bordered limit most o) → BorderOn limit most v w
border_on limit most F v w made does = record {
  port_same = made.port_same;
  by_definition = by_definition;
  law = λ lower G p cs x r. follows (border_of limit most lower) G w (of_bottom lower G p) cs x r;
  stands = stands;
}
  where
    by_definition : (t : List ℕ) (m : Mark) → w.means t m ≡ bordered limit most (v.means t m)
    by_definition t m = made.means t m ∙ does (v.means t m)

    of_bottom : (lower : List Rule) (G : Meaning Event) → Piled limit lower G v → MakesOf (border_of limit most lower) G w
    of_bottom lower G p t m = by_definition t m ∙ ap (bordered limit most) (p t m)

    stands : (lower : List Rule) (top : Rule) (G : Meaning Event) → Piled limit (lower ++ (top ∷ [])) G v → (t : List ℕ) (m : Mark)
        → AsGivenOrOwnFault (w.means t m).stands (lowest_stands limit (lower ++ (top ∷ [])) (G t m))
    stands lower top G p t m =
        subst (λ (o : Outcome Edge). AsGivenOrOwnFault o.stands (lowest_stands limit (lower ++ (top ∷ [])) (G t m)))
        (sym (of_bottom (lower ++ (top ∷ [])) G p t m)) (border_stands limit most lower top (G t m))
