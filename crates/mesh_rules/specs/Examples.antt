-- Worked examples of the rules: what each layer makes of a list, and how it stands.
use Rattle.std.specs.Prelude.{◌≡◌, ℕ, ◌+◌, Bool, List, [], ◌∷◌, pos, int_le}
use Rattle.mesh_stream.specs.declared.event.Point.{Point}
use Rattle.mesh_stream.specs.declared.event.Event.{Event}
use Rattle.mesh_stream.specs.declared.event.Event.TheVariants.{Vertex, Triangle, Finalization}
use Rattle.mesh_stream.specs.declared.fault.Cause.TheVariants.{NotANumber, NotRising, CornerNotLive, NotLive, LeftLive}
use Rattle.mesh_stream.specs.declared.fault.LayerName.TheVariants.{Reader, Check, Clean, Compact, Renumber}
use Rattle.mesh_stream.specs.declared.stage.Standing.{Standing}
use Rattle.mesh_stream.specs.declared.stage.Standing.TheVariants.{Waiting, Ended}
use Rattle.mesh_stream.specs.Meaning.{outcome}
use Rattle.mesh_judge.specs.Accepting.{fault}
use Rattle.mesh_rules.specs.Piling.{Rule, checks, cleans, clips, compacts, renumbers, through, pile}

abbrev pub at : ℕ → ℕ → ℕ → Point
at x y z = record { x = pos x; y = pos y; z = pos z }

-- A layer that hands over these events over a stage that hands over those and stands so.
abbrev pub Makes : Rule → List Event → Standing → List Event → Standing → Type 0
Makes r es s fs t = through 1024 r (outcome es s) ≡ outcome fs t

-- the half-space of the points whose x is at most 5
abbrev pub near : Point → Bool
near p = int_le p.x (pos 5)

-- the finalizations of two and of three vertices, from a place on
abbrev pub two_gone : ℕ → ℕ → ℕ → List Event
two_gone p a b = Finalization p a ∷ Finalization (p + 1) b ∷ []

abbrev pub three_gone : ℕ → ℕ → ℕ → ℕ → List Event
three_gone p a b c = Finalization p a ∷ two_gone (p + 1) b c

pub record WorkedExamples : Type 0 where
  -- An event is refused: what stands before it is handed over, and the fault has the layer's name, the cause and the event's place.
  pub refused : Makes checks (Vertex 1 2 (at 0 0 0) ∷ Vertex 4 2 (at 1 0 0) ∷ Finalization 5 2 ∷ []) Waiting
      (Vertex 1 2 (at 0 0 0) ∷ []) (fault Check NotRising 4)
  pub refused_renumbered : Makes renumbers (Vertex 1 7 (at 0 0 0) ∷ Finalization 2 7 ∷ Triangle 9 7 7 7 ∷ []) Ended
      (Vertex 1 1 (at 0 0 0) ∷ Finalization 2 1 ∷ []) (fault Renumber CornerNotLive 9)
  -- The stage below ended: the place is that of the lowest-numbered live vertex, whether it is kept or not.
  pub left_live : Makes compacts (Vertex 3 2 (at 0 0 0) ∷ Vertex 4 5 (at 0 0 0) ∷ Vertex 6 8 (at 0 0 0) ∷ Finalization 7 2 ∷ []) Ended
      [] (fault Compact LeftLive 4)
  -- No vertex is handed over that no triangle has named yet.
  pub waited_for : Makes compacts (Vertex 3 2 (at 0 0 0) ∷ []) Waiting [] Waiting
  -- A fault from below passes, whatever is live.
  pub passed : Makes (clips near) (Vertex 3 2 (at 0 0 0) ∷ []) (fault Reader NotANumber 4)
      (Vertex 3 2 (at 0 0 0) ∷ []) (fault Reader NotANumber 4)
  -- Three corners on a line, and a corner named twice, make a degenerate triangle.
  pub clean : Makes cleans
      (Vertex 1 1 (at 0 0 0) ∷ Vertex 2 2 (at 1 2 3) ∷ Vertex 3 3 (at 3 6 9) ∷ Vertex 4 4 (at 3 6 8) ∷ Triangle 5 1 2 3 ∷ Triangle 6 1 4 1
      ∷ Triangle 7 1 2 4 ∷ Finalization 8 3 ∷ three_gone 9 1 2 4) Ended
      (Vertex 1 1 (at 0 0 0) ∷ Vertex 2 2 (at 1 2 3) ∷ Vertex 3 3 (at 3 6 9) ∷ Vertex 4 4 (at 3 6 8)
      ∷ Triangle 7 1 2 4 ∷ Finalization 8 3 ∷ three_gone 9 1 2 4) Ended
  -- A triangle with one corner outside goes. The numbers stay.
  pub clip : Makes (clips near)
      (Vertex 1 2 (at 5 9 9) ∷ Vertex 2 4 (at 6 0 0) ∷ Vertex 3 6 (at 0 0 1) ∷ Triangle 4 2 4 6 ∷ Triangle 5 6 2 6
      ∷ Finalization 6 4 ∷ two_gone 7 2 6) Ended
      (Vertex 1 2 (at 5 9 9) ∷ Vertex 3 6 (at 0 0 1) ∷ Triangle 5 6 2 6 ∷ two_gone 7 2 6) Ended
  -- The first vertex gets the number 1, and what names it follows.
  pub renumber : Makes renumbers
      (Vertex 1 3 (at 0 0 0) ∷ Vertex 2 7 (at 1 0 0) ∷ Finalization 3 3 ∷ Vertex 4 8 (at 0 1 0) ∷ Triangle 5 8 7 8 ∷ two_gone 6 8 7) Ended
      (Vertex 1 1 (at 0 0 0) ∷ Vertex 2 2 (at 1 0 0) ∷ Finalization 3 1 ∷ Vertex 4 3 (at 0 1 0) ∷ Triangle 5 3 2 3 ∷ two_gone 6 3 2) Ended
  -- In corner order, each once; a vertex that no triangle names goes, with its finalization.
  pub compact : Makes compacts
      (Vertex 1 1 (at 1 0 0) ∷ Vertex 2 2 (at 2 0 0) ∷ Vertex 3 3 (at 3 0 0) ∷ Vertex 4 5 (at 5 0 0) ∷ Triangle 5 3 1 3 ∷ Finalization 6 2
      ∷ Triangle 7 5 1 3 ∷ three_gone 8 1 3 5) Ended
      (Vertex 3 1 (at 3 0 0) ∷ Vertex 1 2 (at 1 0 0) ∷ Triangle 5 1 2 1 ∷ Vertex 4 3 (at 5 0 0) ∷ Triangle 7 3 2 1 ∷ three_gone 8 2 1 3) Ended
  -- The lowest layer names the fault.
  pub piled : pile 1024 (cleans ∷ compacts ∷ []) (outcome (Vertex 1 4 (at 0 0 0) ∷ Triangle 2 4 4 4 ∷ Finalization 3 5 ∷ []) Ended)
      ≡ outcome [] (fault Clean NotLive 3)
