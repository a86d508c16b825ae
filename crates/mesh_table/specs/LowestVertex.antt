-- The lowest vertex number with a record, found slot by slot.
use Rattle.std.specs.Prelude.{◌≡◌, ℕ, ◌<◌, ◌≤◌, cond, ◌&&◌, List, Some, None, Option, ◌==◌, nat_le}
use Rattle.mesh_table.specs.declared.ring.Record.{Record}
use Rattle.mesh_table.specs.Keys.{vertex_key}
use Rattle.mesh_table.specs.Probing.{Slot, lookup}

-- The lowest vertex number so far; with none so far, the highest that would do.
abbrev pub bound : {V : Type 0} → Option (Record V) → ℕ → ℕ
bound None m = m
bound (Some r) m = r.key.first

-- What has the lower vertex number up to m: a slot, or the lowest record so far.
abbrev pub lower : {V : Type 0} → Slot V → Option (Record V) → ℕ → Option (Record V)
lower None b m = b
lower (Some r) b m = cond (r.key.second == 0 && nat_le r.key.first (bound b m)) (Some r) b

-- The value at the lowest vertex number up to m that has one.
abbrev pub LowestIn : {V : Type 0} → List (Slot V) → ℕ → Option V → Type 0
LowestIn ss m None = (i : ℕ) → i ≤ m → lookup ss (vertex_key i) ≡ None
LowestIn ss m (Some v) =
    (i : ℕ) × (i ≤ m) × (lookup ss (vertex_key i) ≡ Some v) × ((j : ℕ) → j < i → lookup ss (vertex_key j) ≡ None)
