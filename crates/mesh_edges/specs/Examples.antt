-- Worked examples: short lists and their border lists.
use Rattle.std.specs.Prelude.{◌≡◌, ℕ, List, [], ◌∷◌, ◌++◌, pos}
use Rattle.mesh_stream.specs.declared.event.Point.{Point}
use Rattle.mesh_stream.specs.declared.event.Event.{Event}
use Rattle.mesh_stream.specs.declared.event.Event.TheVariants.{Vertex, Triangle, Finalization}
use Rattle.mesh_stream.specs.declared.fault.Cause.TheVariants.{CornerNotLive, LeftLive, TooManyOpenEdges}
use Rattle.mesh_stream.specs.declared.fault.LayerName.TheVariants.{Border}
use Rattle.mesh_stream.specs.declared.stage.Standing.{Standing}
use Rattle.mesh_stream.specs.declared.stage.Standing.TheVariants.{Waiting, Ended}
use Rattle.mesh_stream.specs.Meaning.{outcome}
use Rattle.mesh_judge.specs.Accepting.{fault}
use Rattle.mesh_edges.specs.declared.edge.Edge.{Edge}
use Rattle.mesh_edges.specs.Bordering.{edge, bordered}

abbrev pub at : ℕ → ℕ → Point
at x y = record { x = pos x; y = pos y; z = pos 0 }

-- Over a stage that hands over these events and stands so, a border list with room for so many open edges hands over those and stands so.
abbrev pub Gives : ℕ → List Event → Standing → List Edge → Standing → Type 0
Gives most es s edges t = bordered 1024 most (outcome es s) ≡ outcome edges t

-- Two triangles that make a square.
abbrev pub square : List Event
square =
    Vertex 1 1 (at 0 0) ∷ Vertex 2 2 (at 10 0) ∷ Vertex 3 3 (at 0 10) ∷ Vertex 4 4 (at 10 10)
    ∷ Triangle 5 1 2 4 ∷ Triangle 6 1 4 3 ∷ []

abbrev pub all_gone : List Event
all_gone = Finalization 7 1 ∷ Finalization 8 2 ∷ Finalization 9 3 ∷ Finalization 10 4 ∷ []

pub record WorkedExamples : Type 0 where
  -- The four sides are handed over, each at the finalization of the end that goes first; the diagonal is not single.
  pub sides : Gives 4096 (square ++ all_gone) Ended (edge 5 1 2 ∷ edge 6 3 1 ∷ edge 5 2 4 ∷ edge 6 4 3 ∷ []) Ended
  -- Before that nothing is handed over, and the vertices are live.
  pub none_yet : Gives 4096 square Waiting [] Waiting
  pub left_live : Gives 4096 square Ended [] (fault Border LeftLive 1)
  -- A closed tetrahedron has no border.
  pub tetrahedron : Gives 4096
      (Vertex 1 1 (at 0 0) ∷ Vertex 2 2 (at 10 0) ∷ Vertex 3 3 (at 0 10) ∷ Vertex 4 4 (at 10 10)
      ∷ Triangle 5 1 2 3 ∷ Triangle 6 1 4 2 ∷ Triangle 7 2 4 3 ∷ Triangle 8 3 4 1 ∷ all_gone) Ended [] Ended
  -- With a third triangle on the diagonal, that edge is used three times, twice in the same direction: it is not single.
  pub fin : Gives 4096
      (square ++ (Vertex 7 5 (at 5 5) ∷ Triangle 8 1 4 5 ∷ Finalization 9 1 ∷ Finalization 10 4 ∷ [])) Waiting
      (edge 5 1 2 ∷ edge 6 3 1 ∷ edge 8 5 1 ∷ edge 5 2 4 ∷ edge 6 4 3 ∷ edge 8 4 5 ∷ []) Waiting
  -- A triangle with a corner that it names twice uses no edge.
  pub degenerate : Gives 4096
      (Vertex 1 1 (at 0 0) ∷ Vertex 2 2 (at 10 0) ∷ Triangle 3 1 2 1 ∷ Finalization 4 1 ∷ Finalization 5 2 ∷ []) Ended [] Ended
  -- The square has five open edges after its last triangle. With room for four, that triangle is at fault; its vertices come first.
  pub enough_open : Gives 5 (square ++ all_gone) Ended (edge 5 1 2 ∷ edge 6 3 1 ∷ edge 5 2 4 ∷ edge 6 4 3 ∷ []) Ended
  pub too_many_open : Gives 4 (square ++ all_gone) Ended [] (fault Border TooManyOpenEdges 6)
  -- What was handed over before a fault stays; a corner that is not live comes before too many open edges.
  pub after_some : Gives 5 (square ++ (Finalization 7 1 ∷ Triangle 8 2 3 4 ∷ Triangle 9 1 2 3 ∷ [])) Waiting
      (edge 5 1 2 ∷ edge 6 3 1 ∷ []) (fault Border CornerNotLive 9)
  pub corner_first : Gives 0 (Vertex 1 1 (at 0 0) ∷ Triangle 2 1 2 3 ∷ []) Waiting [] (fault Border CornerNotLive 2)
