-- What allowed settings bound.
use Rattle.std.proofs.Common.{◌+◌, ◌*◌, ◌≤◌, add-mul, mul-le-mul, one-mul, arith}
use Rattle.std.proofs.lemmas.Bool.Decides.{nat_tests}
use Rattle.mesh_bottoms.specs.declared.grid.position.Position.{Position}
use Rattle.mesh_bottoms.specs.Walking.{number_of}

pub number_bound : (p : Position) → number_of p ≤ 50000000
number_bound p =
    let a = p.allowed in
    let l = p.column_within in
    let i : p.row + 1 ≤ 50000 = let k = p.row_within in grind (arith, nat_tests) in
    let j : p.columns ≤ 1000 = grind (arith, nat_tests) in
    let m : (p.row + 1) * p.columns ≤ 50000 * 1000 = mul-le-mul i j in
    omega (arith, add-mul p.row 1 p.columns, one-mul p.columns)
