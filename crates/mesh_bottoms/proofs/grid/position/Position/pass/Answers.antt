use Rattle.std.proofs.Common.{◌+◌, ◌<◌, ◌≤◌, refl, add-mul, one-mul, arith}
use Rattle.std.proofs.lemmas.Bool.Decides.{nat_tests}
use Rattle.mesh_bottoms.proofs.Positions.{whole, next_row}
use Rattle.mesh_bottoms.proofs.grid.position.Position.pass.Goals as goal

pub returns-then-not-in_last_column : goal.returns-then-not-in_last_column
returns-then-not-in_last_column c =
    let p = c.args.self.now in
    let more : p.column + 1 < p.columns = grind (arith, nat_tests) in
    (refl, record { left = whole p.columns p.rows p.step p.row (p.column + 1) more; number = omega arith })

pub returns-then-not-in_last_row : goal.returns-then-not-in_last_row
returns-then-not-in_last_row c =
    let p = c.args.self.now in
    let full : p.columns ≤ p.column + 1 = grind (arith, nat_tests) in
    let more : p.row + 1 < p.rows = grind (arith, nat_tests) in
    (refl, record { left = next_row p.columns p.rows p.step p.row p.column (omega arith) full more; number = omega (arith, add-mul p.row 1 p.columns, one-mul p.columns) })
