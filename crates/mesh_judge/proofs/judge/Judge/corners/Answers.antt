use Rattle.std.proofs.Common.{◌∙◌}
use Rattle.std.proofs.lemmas.Result.{err_from_is_err_and}
use Rattle.mesh_judge.specs.Judging.{window_of}
use Rattle.mesh_judge.proofs.Judging.{first_gone, second_gone, third_gone}
use Rattle.mesh_judge.proofs.judge.Judge.corners.Goals as goal

pub returns-in_err-corner : goal.returns-in_err-corner
returns-in_err-corner g c =
    let w = window_of c.args.self.now in
    let p = err_from_is_err_and c.from_residual.result c.from_residual.ensures.1 in
    let e = c.in_err-corner.ensures in
    rw p.1 (first_gone (w.at c.args.a) (w.at c.args.b) (w.at c.args.c) e.0, p.2 ∙ e.1)

pub returns-in_err-corner-2 : goal.returns-in_err-corner-2
returns-in_err-corner-2 g c =
    let w = window_of c.args.self.now in
    let p = err_from_is_err_and c.from_residual-in_err-corner-2.result c.from_residual-in_err-corner-2.ensures.1 in
    let e = c.in_err-corner-2.ensures in
    rw p.1 (second_gone (w.at c.args.a) (w.at c.args.b) (w.at c.args.c) e.0, p.2 ∙ e.1)

pub returns-in_err-corner-3 : goal.returns-in_err-corner-3
returns-in_err-corner-3 g c =
    let w = window_of c.args.self.now in
    let p = err_from_is_err_and c.from_residual-in_err-corner-3.result c.from_residual-in_err-corner-3.ensures.1 in
    let e = c.in_err-corner-3.ensures in
    rw p.1 (third_gone (w.at c.args.a) (w.at c.args.b) (w.at c.args.c) e.0, p.2 ∙ e.1)
