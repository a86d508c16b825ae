-- The grid of w columns and h rows with step s.
use Rattle.std.specs.Prelude.{ℕ, ◌+◌, ◌-◌, ◌*◌, Bool, true, false, ◌&&◌, List, [], ◌∷◌, ◌++◌, pos, nat_eq, nat_le}
use Rattle.std.specs.List.{flat_map, range_with_len}
use Rattle.mesh_stream.specs.declared.event.Event.{Event}
use Rattle.mesh_stream.specs.declared.event.Event.TheVariants.{Vertex, Triangle, Finalization}
use Rattle.mesh_stream.specs.declared.stage.Standing.TheVariants.{Ended}
use Rattle.mesh_stream.specs.Meaning.{Outcome, outcome}
use Rattle.mesh_bottoms.specs.Placing.{in_places}

-- The settings that are allowed.
abbrev pub grid_allowed : ℕ → ℕ → ℕ → Bool
grid_allowed w h s = nat_le 2 w && nat_le w 1000 && nat_le 2 h && nat_le h 50000 && nat_le 1 s && nat_le ((w - 1) * s) 100000 && nat_le ((h - 1) * s) 100000

abbrev pub when : Bool → List Event → List Event
when true es = es
when false es = []

-- What follows the vertex n = r×w + c + 1 where r and c are both at least 1: with p = n-w-1, q = n-w and m = n-1 the two
-- triangles of the cell, then the finalization of p, of q if c is the last column, of m if r is the last row, of n if both.
-- (The places are set afterwards.)
abbrev pub grid_cell : ℕ → ℕ → ℕ → ℕ → List Event
grid_cell w h r c =
    let n : ℕ = r * w + c + 1 in
    let p : ℕ = n - w - 1 in
    let q : ℕ = n - w in
    let m : ℕ = n - 1 in
    let last_column : Bool = nat_eq c (w - 1) in
    let last_row : Bool = nat_eq r (h - 1) in
    Triangle 0 p q n ∷ Triangle 0 p n m ∷ Finalization 0 p
    ∷ (when last_column (Finalization 0 q ∷ []) ++ (when last_row (Finalization 0 m ∷ []) ++ when (last_column && last_row) (Finalization 0 n ∷ [])))

-- What comes at row r and column c, both counted from 0.
abbrev pub grid_at : ℕ → ℕ → ℕ → ℕ → ℕ → List Event
grid_at w h s r c =
    Vertex 0 (r * w + c + 1) (record { x = pos (c * s); y = pos (r * s); z = pos 0 })
    ∷ when (nat_le 1 r && nat_le 1 c) (grid_cell w h r c)

abbrev pub grid_row : ℕ → ℕ → ℕ → ℕ → List Event
grid_row w h s r = flat_map (grid_at w h s r) (range_with_len 0 w)

-- Row by row, each from its first column to its last; the places count the events from 1.
abbrev pub grid : ℕ → ℕ → ℕ → Outcome Event
grid w h s = outcome (in_places 1 (flat_map (grid_row w h s) (range_with_len 0 h))) Ended
