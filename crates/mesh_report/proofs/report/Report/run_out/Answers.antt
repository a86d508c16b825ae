use Rattle.std.proofs.Common.{◌+◌, refl}
use Rattle.mesh_report.proofs.Running.{running_none, running_more, ran_out}
use Rattle.mesh_report.proofs.report.Report.run_out.Goals as goal

pub loop-standing-init : goal.loop-standing-init
loop-standing-init g c = (0, running_none _ _ _ c.in-Waiting.is)

pub loop-standing-preserved : goal.loop-standing-preserved
loop-standing-preserved g c = (c.loop-standing.invariant.0 + 1, running_more _ _ _ _ _ _ _ _ _ c.loop-standing.invariant.0 c.loop-standing.invariant.1 _ c.in_default-take_next.not-Err c.take_next.ensures)

pub returns-in-Err : goal.returns-in-Err
returns-in-Err g c = ran_out _ _ _ _ _ _ _ _ _ c.in-Waiting.is c.loop-standing.invariant.0 c.loop-standing.invariant.1
    (c.in-Err.ensures _ (record { judge = refl; totals = refl; standing = refl }))
