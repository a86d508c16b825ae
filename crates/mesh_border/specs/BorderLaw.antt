-- The border list on a stage, and the law on runs.
use Rattle.std.specs.Prelude.{◌≡◌, ℕ, ◌⊎◌, List, [], ◌∷◌, ◌++◌}
use Rattle.mesh_stream.specs.declared.event.Event.{Event}
use Rattle.mesh_stream.specs.declared.fault.Cause.TheVariants.{TooManyOpenEdges}
use Rattle.mesh_stream.specs.declared.fault.LayerName.TheVariants.{Border}
use Rattle.mesh_stream.specs.Meaning.{Mark, Outcome, Meaning}
use Rattle.mesh_stream.specs.Runs.{View, Call, Run}
use Rattle.mesh_judge.specs.Accepting.{fault}
use Rattle.mesh_rules.specs.Piling.{Rule, pile, lowest_stands}
use Rattle.mesh_layer.specs.Law.{Piled, Follows}
use Rattle.mesh_edges.specs.declared.edge.Edge.{Edge}
use Rattle.mesh_edges.specs.Bordering.{bordered}

-- The border list over a pile of these layers, from the lowest up, over what a bottom gives.
abbrev pub border_of : ℕ → ℕ → List Rule → Outcome Event → Outcome Edge
border_of limit most lower bottom = bordered limit most (pile limit lower bottom)

-- A border list, with at most `limit` live vertices and `most` open edges, was put on a stage seen as v, and is seen as w.
pub record BorderOn (limit most : ℕ) (v : View Event) (w : View Edge) : Type 0 where
  -- It takes text as the stage below does.
  pub port_same : w.port ≡ v.port
  -- For every text and mark it gives the border list of what is given below.
  pub by_definition : (t : List ℕ) (m : Mark) → w.means t m ≡ bordered limit most (v.means t m)
  -- Whatever pile is below, with whatever layers and bottom, every list of calls from here, in any order and number, refused ones and
  -- calls after the end among them, follows the border list of what the pile makes of the bottom's list.
  pub law : (lower : List Rule) (G : Meaning Event) → Piled limit lower G v
      → (cs : List (Call Edge)) (x : View Edge) → Run w cs x → Follows (border_of limit most lower) G cs x
  -- Over a pile of at least one layer it stands as the lowest layer alone would, or is at fault itself for too many open edges: nothing
  -- else of what its own judging knows can show.
  pub stands : (lower : List Rule) (top : Rule) (G : Meaning Event) → Piled limit (lower ++ (top ∷ [])) G v → (t : List ℕ) (m : Mark)
      → ((w.means t m).stands ≡ lowest_stands limit (lower ++ (top ∷ [])) (G t m))
      ⊎ ((p : ℕ) × ((w.means t m).stands ≡ fault Border TooManyOpenEdges p))
