-- Slots round a ring of n.
use Rattle.std.proofs.Common.{◌≡◌, ℕ, ◌+◌, ◌*◌, ◌^◌, ◌<◌, subst, mul_comm, div-lt_iff_lt-mul, mul-lt-mul_of_pos_right, arith, lit<}
use Rattle.std.proofs.lemmas.Bool.Decides.{nat_tests}
use Rattle.mesh_table.specs.declared.key.Key.{Key}
use Rattle.mesh_table.specs.Keys.{spread}
use Rattle.mesh_table.specs.Probing.{slot_ahead, steps_between, home_slot}
use Rattle.mesh_table.proofs.Keys.{spread_below}

pub ahead_same : (n h d e : ℕ) → h < n → d < n → e < n → slot_ahead n h d ≡ slot_ahead n h e → d ≡ e
ahead_same n h d e p q r s = grind (arith, nat_tests)

pub ahead_add : (n h d g : ℕ) → h < n → d + g < n → slot_ahead n (slot_ahead n h d) g ≡ slot_ahead n h (d + g)
ahead_add n h d g p q = grind (arith, nat_tests)

pub ahead_below : (n h d : ℕ) → h < n → d < n → slot_ahead n h d < n
ahead_below n h d p q = grind (arith, nat_tests)

pub steps_below : (n h i : ℕ) → h < n → i < n → steps_between n h i < n
steps_below n h i p q = grind (arith, nat_tests)

pub ahead_steps : (n h i : ℕ) → h < n → i < n → slot_ahead n h (steps_between n h i) ≡ i
ahead_steps n h i p q = grind (arith, nat_tests)

pub steps_ahead : (n h d : ℕ) → h < n → d < n → steps_between n h (slot_ahead n h d) ≡ d
steps_ahead n h d p q = grind (arith, nat_tests)

pub ahead_onto : (n h i : ℕ) → h < n → i < n → (e : ℕ) × (e < n) × (slot_ahead n h e ≡ i)
ahead_onto n h i p q = (steps_between n h i, steps_below n h i p q, ahead_steps n h i p q)

-- a key's home is a slot
pub home_below : (n : ℕ) (k : Key) → 0 < n → home_slot n k < n
unfolding home_slot
home_below n k p =
    (div-lt_iff_lt-mul {k = 2 ^ 32} (lit< tt)).1
    (subst (λ (x : ℕ). spread k * n < x) (mul_comm (2 ^ 32) n) (mul-lt-mul_of_pos_right (spread_below k) p))
