-- Products of near numbers, and when two are equal.
use Rattle.std.proofs.Common.{◌≡◌, ◌*◌, ◌≤◌, true, eqb, true≢false, ℤ, pos, negsuc, ◌+ℤ◌, ◌-ℤ◌, ◌*ℤ◌, nat_abs, sym, ap, ◌∙◌, mul-le-mul, arith, w64, SFits, to_z, of_z}
use Rattle.std.specs.Cmp.{both_ways}
use Rattle.std.proofs.Math.IntN.{+ℤ_idl, +ℤ_invr, -ℤ-+ℤ_cancel}
use Rattle.std.proofs.lemmas.Bool.{eqb-true, eq-eqb}
use Rattle.std.proofs.lemmas.Int.{to_z-of_z, unsigned_abs-mul, fits_signed_from_abs}
use Rattle.mesh_rules.specs.Degenerate.{is_zero}
use Rattle.mesh_filters.specs.Near.{Near}

pub product_fits : (p q : ℤ) → Near p → Near q → SFits w64 (p *ℤ q)
product_fits p q a b =
    let h : nat_abs p * nat_abs q ≤ 200000 * 200000 = mul-le-mul a.abs b.abs in
    fits_signed_from_abs w64 (p *ℤ q) (omega (arith, unsigned_abs-mul p q))

zero_is : (z : ℤ) → is_zero z ≡ true → z ≡ pos 0
zero_is (pos n) h = ap pos (eqb-true n 0 h)
zero_is (negsuc n) h = absurd (true≢false (sym h))

-- Equal as 64 bits is equal.
pub same_is : (x y : ℤ) → SFits w64 x → SFits w64 y → eqb (of_z w64 x) (of_z w64 y) ≡ is_zero (x -ℤ y)
same_is x y f g = both_ways _ _ there back
  where
    there : eqb (of_z w64 x) (of_z w64 y) ≡ true → is_zero (x -ℤ y) ≡ true
    there h =
        let e : x ≡ y = sym (to_z-of_z w64 x f) ∙ ap (to_z w64) (eqb-true _ _ h) ∙ to_z-of_z w64 y g in
        ap (λ (z : ℤ). is_zero (z -ℤ y)) e ∙ ap is_zero (+ℤ_invr y)

    back : is_zero (x -ℤ y) ≡ true → eqb (of_z w64 x) (of_z w64 y) ≡ true
    back h =
        let e : x ≡ y = sym (-ℤ-+ℤ_cancel x y) ∙ ap (λ (z : ℤ). z +ℤ y) (zero_is (x -ℤ y) h) ∙ +ℤ_idl y in
        eq-eqb _ _ (ap (of_z w64) e)
