use Rattle.std.proofs.Common.{◌≤◌, sym, refl, arith}
use Rattle.std.proofs.lemmas.Bool.Decides.{nat_tests}
use Rattle.mesh_bottoms.proofs.Positions.{all_left}
use Rattle.mesh_bottoms.proofs.Width.{grid_narrow}
use Rattle.mesh_bottoms.proofs.grid.Grid.new.Goals as goal

pub returns : goal.returns
returns c =
    let a = sym c.if-not-allows.ensures in
    let l : 2 ≤ c.args.columns = grind (arith, nat_tests) in
    let h : 2 ≤ c.args.rows = grind (arith, nat_tests) in
    record { allowed = a; means = λ t m. all_left c.args.columns c.args.rows c.args.step (omega arith) (omega arith); no_text = refl; narrow = grid_narrow c.args.columns c.args.rows c.args.step l }
