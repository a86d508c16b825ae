-- The rows of live vertices, and which of them were joined.
use Rattle.std.specs.Prelude.{◌≡◌, ◌≢◌, ℕ, suc, zero, ◌+◌, ◌*◌, ◌/◌, ◌%◌, ◌<◌, Bool, true, false, ◌&&◌, ◌||◌, List, [], take, Some, None, Option, ◌==◌, slice_index_or}
use Rattle.std.specs.Int.{bit_at}
use Rattle.mesh_stream.specs.Lists.{has}
use Rattle.mesh_judge.specs.Windows.{put}
use Rattle.mesh_border.specs.declared.neighbours.Neighbours.{Neighbours}

-- the vertex of a row, if it has one
abbrev pub vertex_of : Neighbours → ℕ → Option ℕ
vertex_of n r = slice_index_or n.vertices r None

-- how many rows are free
abbrev pub free_rows : Neighbours → ℕ
free_rows n = n.free_count

-- the row that the next vertex will have; 0 where none is free
abbrev pub last_of : List ℕ → ℕ → ℕ
last_of free zero = 0
last_of free (suc k) = slice_index_or free k 0

abbrev pub next_row : Neighbours → ℕ
next_row n = last_of n.free n.free_count

-- bit c of row r
abbrev pub near : Neighbours → ℕ → ℕ → Bool
near n r c = bit_at (slice_index_or (slice_index_or n.bits r []) (c / 64) 0) (c % 64) == 1

-- A vertex has the next row, which was free, and is joined with no other.
pub record Entered (old : Neighbours) (v : ℕ) (new : Neighbours) : Type 0 where
  pub inside : next_row old < 1024
  pub bare : vertex_of old (next_row old) ≡ None
  pub vertices : (r : ℕ) → vertex_of new r ≡ put (vertex_of old) (next_row old) (Some v) r
  pub alone : (c : ℕ) → near new (next_row old) c ≡ false
  pub others : (r c : ℕ) → r ≢ next_row old → near new r c ≡ near old r c
  pub free : free_rows new + 1 ≡ free_rows old

-- A row is free again.
pub record LeftRow (old : Neighbours) (row : ℕ) (new : Neighbours) : Type 0 where
  pub vertices : (r : ℕ) → vertex_of new r ≡ put (vertex_of old) row None r
  pub same : (r c : ℕ) → near new r c ≡ near old r c
  pub free : free_rows new ≡ free_rows old + 1

-- Only bits changed.
pub record SameRows (old new : Neighbours) : Type 0 where
  pub vertices : (r : ℕ) → vertex_of new r ≡ vertex_of old r
  pub free : free_rows new ≡ free_rows old

pub record BitSet (old : Neighbours) (row column : ℕ) (new : Neighbours) : Type 0 where
  pub bits : (r c : ℕ) → near new r c ≡ (near old r c || (r == row && c == column))
  pub rows : SameRows old new

-- The vertices of two rows are joined.
pub record Joined (old : Neighbours) (a b : ℕ) (new : Neighbours) : Type 0 where
  pub bits : (r c : ℕ) → near new r c ≡ (near old r c || (r == a && c == b) || (r == b && c == a))
  pub rows : SameRows old new

-- The vertices that row r says may be joined with its own are among the first `count` of these numbers.
abbrev pub Listed : Neighbours → ℕ → List ℕ → ℕ → Type 0
Listed n r into count = (c v : ℕ) → near n r c ≡ true → vertex_of n c ≡ Some v → has v (take count into) ≡ true

-- Those of one word of a row.
abbrev pub WordListed : Neighbours → ℕ → ℕ → List ℕ → ℕ → Type 0
WordListed n k word into count =
    (bit v : ℕ) → bit < 64 → bit_at word bit ≡ 1 → vertex_of n (k * 64 + bit) ≡ Some v → has v (take count into) ≡ true

-- What was among the first numbers stays there.
abbrev pub KeepsListed : List ℕ → ℕ → List ℕ → ℕ → Type 0
KeepsListed old before new after = (v : ℕ) → has v (take before old) ≡ true → has v (take after new) ≡ true
