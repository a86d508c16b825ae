use Rattle.std.proofs.Common.{◌≡◌, ℕ, ◌<◌, length, slice_index_or}
use Rattle.mesh_border.proofs.neighbours.rows.all_rows.Given as goal

abbrev pub invariant-loop-row : goal.invariant-loop-row
invariant-loop-row l = (length l.rows ≡ 1024) × ((k : ℕ) → k < l.row → slice_index_or l.rows k 0 ≡ k)
