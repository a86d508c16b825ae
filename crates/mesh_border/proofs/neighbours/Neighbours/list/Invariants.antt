use Rattle.std.proofs.Common.{◌≡◌, ◌*◌, ◌<◌, ◌≤◌, length, ℕ, slice_index_or}
use Rattle.mesh_border.specs.Rows.{WordListed}
use Rattle.mesh_border.proofs.neighbours.Neighbours.list.Given as goal

abbrev pub invariant-loop-k : goal.invariant-loop-k
invariant-loop-k l = record {
  long : length l.into ≡ 1024;
  few : l.count ≤ l.k * 64;
  listed : (j : ℕ) → j < l.k → WordListed l.self j (slice_index_or l.word-items j 0) l.into l.count;
}
