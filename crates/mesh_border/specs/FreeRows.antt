-- The rows that are free.
use Rattle.std.specs.Prelude.{◌≡◌, ◌≢◌, ℕ, ◌<◌, ◌≤◌, List, None, Option, slice_index_or}

-- The free rows have no vertex, and none of them is listed twice.
pub record FreeRows (vertices : List (Option ℕ)) (free : List ℕ) (count : ℕ) : Type 0 where
  pub few : count ≤ 1024
  pub inside : (k : ℕ) → k < count → slice_index_or free k 0 < 1024
  pub bare : (k : ℕ) → k < count → slice_index_or vertices (slice_index_or free k 0) None ≡ None
  pub distinct : (j k : ℕ) → j < k → k < count → slice_index_or free j 0 ≢ slice_index_or free k 0
