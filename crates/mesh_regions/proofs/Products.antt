-- The factors of a half space, and a product of one with a coordinate: at most 1000 × 2^31 away from 0.
use Rattle.std.proofs.Common.{◌≡◌, ℕ, suc, ◌*◌, ◌≤◌, true, ◌&&◌, ℤ, pos, negsuc, ◌*ℤ◌, ◌≤ℤ◌, nat_abs, mul-le-mul, leb, arith, w32, SFits}
use Rattle.std.proofs.lemmas.Int.{ints, unsigned_abs-mul}
use Rattle.std.proofs.lemmas.Bool.{and_parts, leb-true}
use Rattle.mesh_regions.specs.HalfSpaces.{factor_allowed, limit_allowed, half_space_allowed}

pub second_factor : (a b c d : ℤ) → half_space_allowed a b c d ≡ true → factor_allowed b ≡ true
second_factor a b c d h =
    let abc = (and_parts (factor_allowed a && factor_allowed b && factor_allowed c) (limit_allowed d) h).0 in
    (and_parts (factor_allowed a) (factor_allowed b) (and_parts (factor_allowed a && factor_allowed b) (factor_allowed c) abc).0).1

pub third_factor : (a b c d : ℤ) → half_space_allowed a b c d ≡ true → factor_allowed c ≡ true
third_factor a b c d h = (and_parts (factor_allowed a && factor_allowed b) (factor_allowed c) (and_parts (factor_allowed a && factor_allowed b && factor_allowed c) (limit_allowed d) h).0).1

factor_within : (a : ℤ) → factor_allowed a ≡ true → nat_abs a ≤ 1000
unfolding factor_allowed
factor_within (pos n) h = leb-true n 1000 h
factor_within (negsuc n) h = let l = leb-true n 999 (and_parts (leb n 999) true h).0 in omega arith

coordinate_within : (z : ℤ) → SFits w32 z → nat_abs z ≤ 2147483648
coordinate_within (pos n) h = let l = h.sfits in omega arith
coordinate_within (negsuc n) h = let l = h.sfits in omega arith

above_of : (z : ℤ) (n : ℕ) → nat_abs z ≤ suc n → negsuc n ≤ℤ z
above_of (pos m) n h = omega (arith, ints)
above_of (negsuc m) n h = omega (arith, ints)

below_of : (z : ℤ) (n : ℕ) → nat_abs z ≤ n → z ≤ℤ pos n
below_of (pos m) n h = omega (arith, ints)
below_of (negsuc m) n h = omega (arith, ints)

product_within : (a z : ℤ) → factor_allowed a ≡ true → SFits w32 z → nat_abs (a *ℤ z) ≤ 2147483648000
product_within a z h f = let l : nat_abs a * nat_abs z ≤ 1000 * 2147483648 = mul-le-mul (factor_within a h) (coordinate_within z f) in omega (arith, unsigned_abs-mul a z)

pub product_above : (a z : ℤ) → factor_allowed a ≡ true → SFits w32 z → negsuc 2147483647999 ≤ℤ (a *ℤ z)
product_above a z h f = above_of (a *ℤ z) 2147483647999 (product_within a z h f)

pub product_below : (a z : ℤ) → factor_allowed a ≡ true → SFits w32 z → (a *ℤ z) ≤ℤ pos 2147483648000
product_below a z h f = below_of (a *ℤ z) 2147483648000 (product_within a z h f)
