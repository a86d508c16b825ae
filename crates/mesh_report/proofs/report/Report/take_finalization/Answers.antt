use Rattle.std.proofs.Common.{refl}
use Rattle.std.proofs.lemmas.Result.{err_from_is_err_and}
use Rattle.mesh_judge.specs.Judging.{window_of}
use Rattle.mesh_report.proofs.Sums.{sums_same, sums_final}
use Rattle.mesh_report.proofs.report.Report.take_finalization.Goals as goal

pub invariant_of-self : goal.invariant_of-self
invariant_of-self c =
    let r = c.args.self.now in
    record { sums = sums_same (window_of r.judge) (window_of c.finalization.new.self) r.totals (c.in_err-finalization.ensures 0).window r.sums }

pub returns-in_err-finalization : goal.returns-in_err-finalization
returns-in_err-finalization c =
    let p = err_from_is_err_and c.from_residual.result c.from_residual.ensures.1 in
    rw (p.1, p.2) (c.in_err-finalization.ensures, refl, refl)

pub invariant_of-self-2 : goal.invariant_of-self-2
invariant_of-self-2 c =
    let r = c.args.self.now in
    let e = c.in_ok-finalization.ensures in
    record { sums = sums_final (window_of r.judge) (window_of c.finalization.new.self) r.totals c.args.vertex (e.0 0).window e.2 r.sums }
