-- Areas in 64 bits: differences of coordinates, their products, and the difference of two products.
use Rattle.std.proofs.Common.{◌≡◌, ℕ, zero, suc, ◌+◌, ◌-◌, ◌*◌, ◌^◌, ◌<◌, ◌≤◌, Bool, true, false, cond, ◌&&◌, ltb, leb, ℤ, pos, negsuc, ◌+ℤ◌, ◌-ℤ◌, ◌*ℤ◌, neg_ℤ, nat_abs, sym, refl, ap, ◌∙◌, subst, mul-le-mul, arith, w32, w64, SFits, to_z, of_z}
use lib.IntN.{sub_ℕ}
use Rattle.std.proofs.lemmas.Int.{to_z-of_z, unsigned_abs-mul, fits_signed_from_abs}
use Rattle.std.proofs.lemmas.Bool.{and_parts, leb-true, ltb-true}
use Rattle.mesh_stream.specs.declared.event.Point.{Point}
use Rattle.mesh_stream.specs.Ranges.{coordinate, in_space}
use Rattle.mesh_report.specs.Areas.{Within}

abs_neg : (n : ℕ) → nat_abs (neg_ℤ (pos n)) ≡ n
abs_neg zero = refl
abs_neg (suc n) = refl

pub within_product : (m n : ℕ) (a b : ℤ) → Within m a → Within n b → Within (m * n) (a *ℤ b)
within_product m n a b p q = record { abs = let h : nat_abs a * nat_abs b ≤ m * n = mul-le-mul p.abs q.abs in omega (arith, unsigned_abs-mul a b) }

pub within_fits : (m : ℕ) (z : ℤ) → Within m z → m < 2 ^ 63 → SFits w64 z
within_fits m z h l = fits_signed_from_abs w64 z (let a = h.abs in omega arith)

abs_sub : (a b : ℕ) → nat_abs (sub_ℕ a b) ≤ a + b
abs_sub a b = at (ltb a b) refl
  where
    at : (t : Bool) → ltb a b ≡ t → nat_abs (cond t (negsuc (b - suc a)) (pos (a - b))) ≤ a + b
    at true e = let l = ltb-true a b e in omega arith
    at false e = omega arith

abs_sum : (a b : ℤ) → nat_abs (a +ℤ b) ≤ nat_abs a + nat_abs b
abs_sum (pos a) (pos b) = omega arith
abs_sum (pos a) (negsuc b) = abs_sub a (suc b)
abs_sum (negsuc a) (pos b) = let h = abs_sub b (suc a) in omega arith
abs_sum (negsuc a) (negsuc b) = omega arith

pub within_sum : (m n k : ℕ) (a b : ℤ) → Within m a → Within n b → m + n ≤ k → Within k (a +ℤ b)
within_sum m n k a b p q l = record { abs = let x = p.abs in let y = q.abs in let z = abs_sum a b in omega arith }

pub within_difference : (m n k : ℕ) (a b : ℤ) → Within m a → Within n b → m + n ≤ k → Within k (a -ℤ b)
within_difference m n k a b p q l = within_sum m n k a (neg_ℤ b) p (record { abs = let x = abs_negℤ b in let y = q.abs in omega arith }) l
  where
    abs_negℤ : (z : ℤ) → nat_abs (neg_ℤ z) ≡ nat_abs z
    abs_negℤ (pos n) = abs_neg n
    abs_negℤ (negsuc n) = refl

within_coordinate : (z : ℤ) → coordinate z ≡ true → Within 100000 z
within_coordinate (pos n) h = record { abs = leb-true n 100000 h }
within_coordinate (negsuc n) h = record { abs = let l = leb-true n 99999 (and_parts (leb n 99999) true h).0 in omega arith }

-- Passed on as bits and back.

coordinate_fits : (z : ℤ) → coordinate z ≡ true → SFits w32 z
coordinate_fits z h = fits_signed_from_abs w32 z (let a = (within_coordinate z h).abs in omega arith)

pub coordinate_bits : (z : ℤ) → coordinate z ≡ true → to_z w32 (of_z w32 z) ≡ z
coordinate_bits z h = to_z-of_z w32 z (coordinate_fits z h)

pub coordinate_kept : (z : ℤ) → coordinate z ≡ true → coordinate (to_z w32 (of_z w32 z)) ≡ true
coordinate_kept z h = ap coordinate (coordinate_bits z h) ∙ h

module _ (p q : ℤ) (fp : SFits w64 p) (fq : SFits w64 q) where
  pub bits_product : Within 200000 p → Within 200000 q → (to_z w64 (of_z w64 p) *ℤ to_z w64 (of_z w64 q) ≡ p *ℤ q) × Within 40000000000 (p *ℤ q)
  bits_product a b = ((λ n. to_z-of_z w64 p fp n *ℤ to_z-of_z w64 q fq n), within_product 200000 200000 p q a b)

  pub bits_difference : (m n k : ℕ) → m + n ≤ k → Within m p → Within n q → (to_z w64 (of_z w64 p) -ℤ to_z w64 (of_z w64 q) ≡ p -ℤ q) × Within k (p -ℤ q)
  bits_difference m n k l a b = ((λ i. to_z-of_z w64 p fp i -ℤ to_z-of_z w64 q fq i), within_difference m n k p q a b l)

pub apart : (b a u v : ℤ) → SFits w64 u → SFits w64 v → u ≡ b → v ≡ a → coordinate b ≡ true → coordinate a ≡ true → (to_z w64 (of_z w64 (to_z w64 (of_z w64 u) -ℤ to_z w64 (of_z w64 v))) ≡ b -ℤ a) × Within 200000 (to_z w64 (of_z w64 (to_z w64 (of_z w64 u) -ℤ to_z w64 (of_z w64 v))))
apart b a u v fu fv e f cb ca =
    let d = bits_difference u v fu fv 100000 100000 200000 (omega arith) (subst (Within 100000) (sym e) (within_coordinate b cb)) (subst (Within 100000) (sym f) (within_coordinate a ca)) in
    let s : SFits w64 (to_z w64 (of_z w64 u) -ℤ to_z w64 (of_z w64 v)) = subst (SFits w64) (sym d.0) (within_fits 200000 _ d.1 (omega arith)) in
    let g = to_z-of_z w64 _ s ∙ d.0 in
    (g ∙ (λ n. e n -ℤ f n), subst (Within 200000) (sym g) d.1)

pub coordinates : (p : Point) → in_space p ≡ true → (coordinate p.x ≡ true) × (coordinate p.y ≡ true)
coordinates p h = and_parts (coordinate p.x) (coordinate p.y) (and_parts (coordinate p.x && coordinate p.y) (coordinate p.z) h).0

-- One triangle more: the sum of so many areas fits.
pub area_sum : (a z : ℤ) (t : ℕ) → SFits w64 a → SFits w64 z → nat_abs a ≤ 80000000000 * t → Within 80000000000 z → t < 100000000
    → (to_z w64 (of_z w64 (to_z w64 (of_z w64 a) +ℤ to_z w64 (of_z w64 z))) ≡ a +ℤ z) × (nat_abs (to_z w64 (of_z w64 (to_z w64 (of_z w64 a) +ℤ to_z w64 (of_z w64 z)))) ≤ 80000000000 * (t + 1))
area_sum a z t fa fz b w l =
    let h = within_sum (80000000000 * t) 80000000000 (80000000000 * (t + 1)) a z (record { abs = b }) w (omega arith) in
    let e : to_z w64 (of_z w64 a) +ℤ to_z w64 (of_z w64 z) ≡ a +ℤ z = λ n. to_z-of_z w64 a fa n +ℤ to_z-of_z w64 z fz n in
    let f = to_z-of_z w64 _ (subst (SFits w64) (sym e) (within_fits (80000000000 * (t + 1)) (a +ℤ z) h (omega arith))) ∙ e in
    (f, subst (λ (x : ℤ). nat_abs x ≤ 80000000000 * (t + 1)) (sym f) h.abs)
