-- What a search that ends without its key has shown: that no slot has the key.
use Rattle.std.proofs.Common.{◌≡◌, ℕ, ◌<◌, List, length, is_some, Some, None, sym, ap, ◌∙◌, ⊎_elim, arith}
use Rattle.std.proofs.lemmas.Bool.{cases_order}
use Rattle.mesh_table.specs.declared.key.Key.{Key}
use Rattle.mesh_table.specs.declared.ring.Probe.{Probe}
use Rattle.mesh_table.specs.declared.ring.Probe.TheVariants.{Found, Vacant, Exhausted}
use Rattle.mesh_table.specs.Probing.{Slot, holding, slot_at, slot_ahead, home_slot, filled, size, lookup, value_in, Passed, Distinct, Reached, Probed, Sought}
use Rattle.mesh_table.proofs.Steps.{ahead_onto}
use Rattle.mesh_table.proofs.SlotCases.{Misses, empty_full, foreign_misses, foreign_filled}
use Rattle.mesh_table.proofs.Finite.{full_inside, size_full, lookup_none, lookup_here}

module _ {V : Type 0} (n : ℕ) (ss : List (Slot V)) (k : Key) (len : length ss ≡ n) (hn : home_slot n k < n) where
  pub exhausted_misses : Passed n ss k n → (j : ℕ) → Misses (slot_at ss j) k
  exhausted_misses passed j v p =
      let o = ahead_onto n (home_slot n k) j hn (omega (arith, full_inside ss j k v p)) in
      foreign_misses _ k (passed o.0 o.1) v (ap (slot_at ss) o.2 ∙ p)

  pub exhausted_size : Passed n ss k n → size ss ≡ n
  exhausted_size passed = size_full ss each ∙ len
    where
      each : (j : ℕ) → j < length ss → filled (slot_at ss j) ≡ 1
      each j l =
          let o = ahead_onto n (home_slot n k) j hn (omega arith) in
          ap (λ (x : ℕ). filled (slot_at ss x)) (sym o.2) ∙ foreign_filled _ k (passed o.0 o.1)

  pub vacant_misses :
      Reached n ss → (d : ℕ) → slot_at ss (slot_ahead n (home_slot n k) d) ≡ None → Passed n ss k d
      → (j : ℕ) → Misses (slot_at ss j) k
  vacant_misses reach d emp passed j v p =
      let o = ahead_onto n (home_slot n k) j hn (omega (arith, full_inside ss j k v p)) in
      let here : slot_at ss (slot_ahead n (home_slot n k) o.0) ≡ holding k v = ap (slot_at ss) o.2 ∙ p in
      ⊎_elim
      (λ (q : o.0 ≡ d).
      empty_full (slot_at ss (slot_ahead n (home_slot n k) d)) k v emp
      (ap (λ (x : ℕ). slot_at ss (slot_ahead n (home_slot n k) x)) (sym q) ∙ here))
      (⊎_elim (λ (l : o.0 < d). foreign_misses _ k (passed o.0 l) v here)
      (λ (l : d < o.0). reach (k, v, d, o.0, o.1, here, l, emp)))
      (cases_order o.0 d)

  pub sought : Distinct ss → Reached n ss → (r : Probe n) → Probed n ss k r → Sought n ss k r
  sought distinct reach (Found i) has =
      let here : lookup ss k ≡ Some has.0 = lookup_here ss i k has.0 distinct has.1 in
      (has, here ∙ sym (ap value_in has.1), ap is_some here)
  sought distinct reach (Vacant i) vac = (
    vac,
    lookup_none ss k (vacant_misses reach vac.steps (ap (slot_at ss) (sym vac.at) ∙ vac.bare) vac.passed),
  )
  sought distinct reach Exhausted passed = (lookup_none ss k (exhausted_misses passed), exhausted_size passed)
