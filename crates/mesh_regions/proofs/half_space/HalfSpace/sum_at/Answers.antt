use Rattle.std.proofs.Common.{◌+ℤ◌, arith, rules, w32, w64, SFits}
use Rattle.std.proofs.lemmas.Int.{ints, to_z-of_z}
use Rattle.mesh_regions.proofs.Products.{second_factor, third_factor}
use Rattle.mesh_regions.proofs.half_space.HalfSpace.sum_at.Goals as goal

pub product-requires-2 : goal.product-requires-2
product-requires-2 c = search (rules, to_z-of_z, second_factor)

pub product-requires-3 : goal.product-requires-3
product-requires-3 c = search (rules, to_z-of_z, third_factor)

pub overflow_add-result : goal.overflow_add-result
overflow_add-result c = omega (arith, ints)

pub overflow_add-result-2 : goal.overflow_add-result-2
overflow_add-result-2 c = omega (arith, ints)

pub returns : goal.returns
returns c =
    let s = c.args.self.now in
    let sa : SFits w32 s.a = search rules in
    let sb : SFits w32 s.b = search rules in
    let sc : SFits w32 s.c = search rules in
    let sx : SFits w32 c.args.at.x = search rules in
    let sy : SFits w32 c.args.at.y = search rules in
    let sz : SFits w32 c.args.at.z = search rules in
    let x = simp to_z-of_z at c.product.ensures.value in
    let y = simp to_z-of_z at c.product-2.ensures.value in
    let z = simp to_z-of_z at c.product-3.ensures.value in
    let fx : SFits w64 c.product.result = record { sfits = c.product.type_inv } in
    let fy : SFits w64 c.product-2.result = record { sfits = c.product-2.type_inv } in
    let fz : SFits w64 c.product-3.result = record { sfits = c.product-3.type_inv } in
    let two : SFits w64 (c.product.result +ℤ c.product-2.result) = omega (arith, ints) in
    let three : SFits w64 (c.product.result +ℤ c.product-2.result +ℤ c.product-3.result) = omega (arith, ints) in
    simp to_z-of_z (λ n. x n +ℤ y n +ℤ z n)
