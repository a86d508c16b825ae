use Rattle.std.proofs.Common.{◌-ℤ◌, ◌*ℤ◌, sym, ◌∙◌, subst, arith, w64, SFits}
use Rattle.std.proofs.lemmas.Int.{to_z-of_z}
use Rattle.mesh_report.specs.Areas.{rectangle, Within}
use Rattle.mesh_report.proofs.Areas.{coordinates, coordinate_kept, coordinate_bits, bits_product, within_fits}
use Rattle.mesh_report.proofs.area.rectangle_of.Goals as goal

pub distance-requires : goal.distance-requires
distance-requires c = (coordinate_kept c.args.a.x (coordinates c.args.a c.requires.0).0, coordinate_kept c.args.p.x (coordinates c.args.p c.requires.1).0)

pub distance-requires-2 : goal.distance-requires-2
distance-requires-2 c = (coordinate_kept c.args.a.y (coordinates c.args.a c.requires.0).1, coordinate_kept c.args.q.y (coordinates c.args.q c.requires.2).1)

pub overflow_mul-result : goal.overflow_mul-result
overflow_mul-result c =
    let p = bits_product c.distance.result c.distance-2.result (record { sfits = c.distance.type_inv }) (record { sfits = c.distance-2.type_inv }) c.distance.ensures.1 c.distance-2.ensures.1 in
    subst (SFits w64) (sym p.0) (within_fits 40000000000 _ p.1 (omega arith))

pub returns : goal.returns
unfolding rectangle
returns c =
    let a = coordinates c.args.a c.requires.0 in
    let x = c.distance.ensures.0 ∙ (λ n. coordinate_bits c.args.p.x (coordinates c.args.p c.requires.1).0 n -ℤ coordinate_bits c.args.a.x a.0 n) in
    let y = c.distance-2.ensures.0 ∙ (λ n. coordinate_bits c.args.q.y (coordinates c.args.q c.requires.2).1 n -ℤ coordinate_bits c.args.a.y a.1 n) in
    let p = bits_product c.distance.result c.distance-2.result (record { sfits = c.distance.type_inv }) (record { sfits = c.distance-2.type_inv }) c.distance.ensures.1 c.distance-2.ensures.1 in
    let e = to_z-of_z w64 _ (overflow_mul-result c) ∙ p.0 in
    (e ∙ (λ n. x n *ℤ y n), subst (Within 40000000000) (sym e) p.1)
