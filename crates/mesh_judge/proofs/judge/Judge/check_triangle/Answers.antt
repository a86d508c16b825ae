use Rattle.std.proofs.Common.{◌∙◌}
use Rattle.std.proofs.lemmas.Result.{err_from_is_err_and}
use Rattle.mesh_judge.proofs.Judging.{corners_checked, count_checked}
use Rattle.mesh_judge.proofs.judge.Judge.check_triangle.Goals as goal

pub returns-in_err-corners : goal.returns-in_err-corners
returns-in_err-corners g c =
    let p = err_from_is_err_and c.from_residual.result c.from_residual.ensures.1 in
    let e = c.in_err-corners.ensures in
    rw p.1 (corners_checked c.args.self.now c.args.a c.args.b c.args.c p.0 (e.0, p.2 ∙ e.1))

pub returns : goal.returns
returns g c =
    count_checked c.args.self.now c.args.a c.args.b c.args.c _ c.check_count.result c.in_ok-corners.ensures c.check_count.ensures
