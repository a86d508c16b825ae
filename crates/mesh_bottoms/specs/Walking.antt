-- The grid event by event: what is left of it from a part of a position on. (The places are set afterwards.)
use Rattle.std.specs.Prelude.{◌≡◌, ℕ, ◌+◌, ◌-◌, ◌*◌, ◌<◌, ◌≤◌, Bool, ◌&&◌, List, [], ◌∷◌, ◌++◌, pos, Some, None, Option, ◌==◌, nat_le}
use Rattle.std.specs.List.{flat_map, range_with_len}
use Rattle.mesh_stream.specs.declared.event.Event.{Event}
use Rattle.mesh_stream.specs.declared.event.Point.{Point}
use Rattle.mesh_stream.specs.declared.event.Event.TheVariants.{Vertex, Triangle, Finalization}
use Rattle.mesh_bottoms.specs.declared.grid.position.Position.{Position}
use Rattle.mesh_bottoms.specs.declared.grid.part.Part.{Part}
use Rattle.mesh_bottoms.specs.declared.grid.part.Part.TheVariants.{NewVertex, FirstTriangle, SecondTriangle, FinalizationOfP, FinalizationOfQ, FinalizationOfM, FinalizationOfN}
use Rattle.mesh_bottoms.specs.Gridding.{when, grid_cell, grid_at, grid_row}

-- how many parts of its position stand behind it
abbrev pub parts_behind : Part → ℕ
parts_behind NewVertex = 6
parts_behind FirstTriangle = 5
parts_behind SecondTriangle = 4
parts_behind FinalizationOfP = 3
parts_behind FinalizationOfQ = 2
parts_behind FinalizationOfM = 1
parts_behind FinalizationOfN = 0

-- how many parts are left from the next one on, if there is one
abbrev pub parts_left : Option Part → ℕ
parts_left (Some part) = parts_behind part + 1
parts_left None = 0

module _ (w h s : ℕ) where
  -- of row r, the columns from c on
  abbrev pub row_from : ℕ → ℕ → List Event
  row_from r c = flat_map (grid_at w h s r) (range_with_len c (w - c))

  -- the rows from r on
  abbrev pub rows_from : ℕ → List Event
  rows_from r = flat_map (grid_row w h s) (range_with_len r (h - r))

module _ (p : Position) where
  -- In the first row and the first column only the vertex comes.
  abbrev pub Inner : Part → Type 0
  Inner part = parts_behind part < 6 → (1 ≤ p.row) × (1 ≤ p.column)

  -- the number of its vertex
  abbrev pub number_of : ℕ
  number_of = p.row * p.columns + p.column + 1

  -- where its vertex stands
  abbrev pub point_of : Point
  point_of = record { x = pos (p.column * p.step); y = pos (p.row * p.step); z = pos 0 }

  abbrev pub part_event : Part → Event
  part_event NewVertex = Vertex 0 number_of point_of
  part_event FirstTriangle = Triangle 0 (number_of - p.columns - 1) (number_of - p.columns) number_of
  part_event SecondTriangle = Triangle 0 (number_of - p.columns - 1) number_of (number_of - 1)
  part_event FinalizationOfP = Finalization 0 (number_of - p.columns - 1)
  part_event FinalizationOfQ = Finalization 0 (number_of - p.columns)
  part_event FinalizationOfM = Finalization 0 (number_of - 1)
  part_event FinalizationOfN = Finalization 0 number_of

  abbrev pub last_column : Bool
  last_column = p.column == p.columns - 1

  abbrev pub last_row : Bool
  last_row = p.row == p.rows - 1

  abbrev own : Part → List Event
  own part = part_event part ∷ []

  abbrev after_m : List Event
  after_m = when (last_column && last_row) (own FinalizationOfN)

  abbrev after_q : List Event
  after_q = when last_row (own FinalizationOfM) ++ after_m

  abbrev after_p : List Event
  after_p = when last_column (own FinalizationOfQ) ++ after_q

  -- what comes at the position behind the event of a part
  abbrev pub after_part : Part → List Event
  after_part NewVertex = when (nat_le 1 p.row && nat_le 1 p.column) (grid_cell p.columns p.rows p.row p.column)
  after_part FirstTriangle = part_event SecondTriangle ∷ part_event FinalizationOfP ∷ after_p
  after_part SecondTriangle = part_event FinalizationOfP ∷ after_p
  after_part FinalizationOfP = after_p
  after_part FinalizationOfQ = after_q
  after_part FinalizationOfM = after_m
  after_part FinalizationOfN = []

  -- what comes behind the position: the rest of its row, and the rows below
  abbrev pub behind : List Event
  behind = row_from p.columns p.rows p.step p.row (p.column + 1) ++ rows_from p.columns p.rows p.step (p.row + 1)

  -- what is left from a part on
  abbrev pub left_from : Part → List Event
  left_from part = part_event part ∷ after_part part ++ behind

  -- A part that comes next after another, if one does.
  pub record GoesOn (part next : Part) : Type 0 where
    pub left : after_part part ≡ part_event next ∷ after_part next
    pub later : parts_behind next < parts_behind part
    pub row_inner : 1 ≤ p.row
    pub column_inner : 1 ≤ p.column

  abbrev pub PartFollows : Part → Option Part → Type 0
  PartFollows part (Some next) = GoesOn part next
  PartFollows part None = after_part part ≡ []

-- A position that comes next after another, if one does.
pub record Neighbours (p next : Position) : Type 0 where
  pub left : left_from next NewVertex ≡ behind p
  pub number : number_of next ≡ number_of p + 1

-- The last position, which stays, and behind which nothing comes.
pub record Last (p next : Position) : Type 0 where
  pub left : behind p ≡ []
  pub stays : next ≡ p
  pub row_inner : 1 ≤ p.row
  pub column_inner : 1 ≤ p.column

-- the first part of the position that comes next, if one does
abbrev pub PositionPassed : Position → Option Part → Position → Type 0
PositionPassed p (Some part) next = (part ≡ NewVertex) × Neighbours p next
PositionPassed p None next = Last p next
