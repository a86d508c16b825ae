use Rattle.std.proofs.Common.{◌≡◌, ◌<◌, ◌≤◌, length, ℕ, ◌+◌, ◌*◌, take, Some, true}
use Rattle.std.specs.Int.{bit_at}
use Rattle.mesh_stream.specs.Lists.{has}
use Rattle.mesh_border.specs.Rows.{vertex_of, KeepsListed}
use Rattle.mesh_border.proofs.neighbours.Neighbours.list_word.Given as goal

-- As the bits are taken from the lowest on, those of as many columns as there are entries are taken.
abbrev pub invariant-loop-left : goal.invariant-loop-left
invariant-loop-left l = record {
  long : length l.into ≡ 1024;
  few : l.count ≤ l.k * 64 + 64;
  taken : (i : ℕ) → l.k * 64 + i < l.count → bit_at l.left i ≡ 0;
  kept : KeepsListed l.fn.into l.fn.count l.into l.count;
  listed : (bit v : ℕ) → bit < 64 → bit_at l.word bit ≡ 1 → (bit_at l.left bit ≡ 1 → ⊥) → vertex_of l.self (l.k * 64 + bit) ≡ Some v
      → has v (take l.count l.into) ≡ true;
}

abbrev pub decreases-loop-left : goal.decreases-loop-left
decreases-loop-left l = l.left
