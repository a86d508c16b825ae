-- Coordinates and distances that are passed on as bits, and come back the same.
use Rattle.std.proofs.Common.{◌≡◌, ◌≤◌, true, ◌&&◌, leb, ℤ, pos, negsuc, ◌-ℤ◌, ◌*ℤ◌, nat_abs, ap, ◌∙◌, arith, w32, w64, SFits, to_z, of_z}
use Rattle.std.proofs.lemmas.Bool.{and_parts, leb-true}
use Rattle.std.proofs.lemmas.Int.{to_z-of_z, fits_signed_from_abs}
use Rattle.mesh_stream.specs.declared.event.Point.{Point}
use Rattle.mesh_stream.specs.Ranges.{coordinate, in_space}
use Rattle.mesh_rules.specs.Degenerate.{is_zero}
use Rattle.mesh_filters.specs.Near.{Near}

pub coordinates : (p : Point) → in_space p ≡ true → (coordinate p.x ≡ true) × (coordinate p.y ≡ true) × (coordinate p.z ≡ true)
coordinates p h =
    let a = and_parts (coordinate p.x && coordinate p.y) (coordinate p.z) h in
    let b = and_parts (coordinate p.x) (coordinate p.y) a.0 in
    (b.0, b.1, a.1)

coordinate_abs : (z : ℤ) → coordinate z ≡ true → nat_abs z ≤ 100000
coordinate_abs (pos n) h = leb-true n 100000 h
coordinate_abs (negsuc n) h = let l = leb-true n 99999 (and_parts (leb n 99999) true h).0 in omega arith

coordinate_bits : (z : ℤ) → coordinate z ≡ true → to_z w32 (of_z w32 z) ≡ z
coordinate_bits z h = to_z-of_z w32 z (fits_signed_from_abs w32 z (let a = coordinate_abs z h in omega arith))

coordinate_passed : (z : ℤ) → coordinate z ≡ true → coordinate (to_z w32 (of_z w32 z)) ≡ true
coordinate_passed z h = ap coordinate (coordinate_bits z h) ∙ h

pub both_passed : (a b : ℤ) → coordinate a ≡ true → coordinate b ≡ true
    → (coordinate (to_z w32 (of_z w32 a)) ≡ true) × (coordinate (to_z w32 (of_z w32 b)) ≡ true)
both_passed a b h k = (coordinate_passed a h, coordinate_passed b k)

pub distance_passed : (d a b : ℤ) → SFits w64 d → d ≡ to_z w32 (of_z w32 b) -ℤ to_z w32 (of_z w32 a)
    → coordinate a ≡ true → coordinate b ≡ true → to_z w64 (of_z w64 d) ≡ b -ℤ a
distance_passed d a b f e h k = to_z-of_z w64 d f ∙ e ∙ (λ i. coordinate_bits b k i -ℤ coordinate_bits a h i)

near_bits : (z : ℤ) → Near z → to_z w64 (of_z w64 z) ≡ z
near_bits z n = to_z-of_z w64 z (fits_signed_from_abs w64 z (let a = n.abs in omega arith))

pub products_passed : (p q r s : ℤ) → Near p → Near q → Near r → Near s
    → is_zero ((to_z w64 (of_z w64 p) *ℤ to_z w64 (of_z w64 q)) -ℤ (to_z w64 (of_z w64 r) *ℤ to_z w64 (of_z w64 s))) ≡ is_zero ((p *ℤ q) -ℤ (r *ℤ s))
products_passed p q r s a b c d = λ i. is_zero ((near_bits p a i *ℤ near_bits q b i) -ℤ (near_bits r c i *ℤ near_bits s d i))
