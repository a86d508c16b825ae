use Rattle.std.proofs.Common.{◌≡◌, refl, arith}
use Rattle.mesh_report.proofs.Running.{running_none, running_more, ran_all, ran_short}
use Rattle.mesh_report.proofs.report.Report.run.Goals as goal

pub loop-taken-init : goal.loop-taken-init
loop-taken-init g c = running_none _ _ _ c.in-Waiting.is

pub loop-taken-preserved : goal.loop-taken-preserved
loop-taken-preserved g c = running_more _ _ _ _ _ _ _ _ _ c.loop-taken.taken c.loop-taken.invariant _ c.in_default-take_next.not-Err c.take_next.ensures

pub returns-in-Err : goal.returns-in-Err
returns-in-Err g c =
    ran_short _ _ _ _ _ _ _ _ _ c.in-Waiting.is c.loop-taken.taken c.loop-taken.invariant
    (c.in-Err.ensures _ (record { judge = refl; totals = refl; standing = refl })) c.args.n c.loop-taken-test.true

pub returns : goal.returns
returns g c = let e : c.loop-taken.taken ≡ c.args.n = omega arith in ran_all _ _ _ _ _ _ c.args.n c.in-Waiting.is (rw e at c.loop-taken.invariant)
