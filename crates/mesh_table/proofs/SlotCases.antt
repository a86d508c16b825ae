-- A slot is empty or full, and a full one has one key.
use Rattle.std.proofs.Common.{◌≡◌, ◌≢◌, Some, None, sym, refl, ap, ◌∙◌}
use Rattle.std.proofs.lemmas.Option.{same_Some}
use Rattle.mesh_table.specs.declared.key.Key.{Key}
use Rattle.mesh_table.specs.declared.ring.Record.{Record}
use Rattle.mesh_table.specs.Probing.{Slot, holding, filled, Foreign}

-- The slot does not have this key.
abbrev pub Misses : {V : Type 0} → Slot V → Key → Type 0
Misses {V} s k = (v : V) → s ≢ holding k v

pub empty_full : {V : Type 0} (s : Slot V) (k : Key) (v : V) → s ≡ None → s ≡ holding k v → ⊥
empty_full s k v p q = cc

pub full_key : {V : Type 0} (s : Slot V) (j k : Key) (v w : V) → s ≡ holding j v → s ≡ holding k w → j ≡ k
full_key {V} s j k v w p q = ap (λ (r : Record V). r.key) (same_Some (record { key = j; value = v }) (record { key = k; value = w }) (sym p ∙ q))

-- an empty slot has no key, and a full one no other
pub empty_misses : {V : Type 0} (s : Slot V) (k : Key) → s ≡ None → Misses s k
empty_misses s k p v = empty_full s k v p

pub full_misses : {V : Type 0} (s : Slot V) (k q : Key) (v : V) → s ≡ holding k v → (q ≡ k → ⊥) → Misses s q
full_misses s k q v p ne w e = ne (full_key s q k w v e p)

-- a slot that a search for k goes past
pub foreign_full : {V : Type 0} (s : Slot V) (k : Key) → Foreign s k → s ≡ None → ⊥
foreign_full None k f e = f
foreign_full (Some r) k f e = cc

pub foreign_misses : {V : Type 0} (s : Slot V) (k : Key) → Foreign s k → Misses s k
foreign_misses None k f v e = f
foreign_misses (Some r) k f v e = f (full_key (Some r) r.key k r.value v refl e)

pub foreign_filled : {V : Type 0} (s : Slot V) (k : Key) → Foreign s k → filled s ≡ 1
foreign_filled None k f = absurd f
foreign_filled (Some r) k f = refl
