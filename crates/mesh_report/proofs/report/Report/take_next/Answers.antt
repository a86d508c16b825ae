use Rattle.mesh_report.proofs.Running.{met_fault, gave_none}
use Rattle.mesh_report.proofs.report.Report.take_next.Goals as goal

pub returns-in-Err-take : goal.returns-in-Err-take
returns-in-Err-take g c = met_fault c.args.self.now c.take.new.self _ _ _ _ c.in-Ok.event c.in-Err-take.cause _ _ c.faulty.ensures c.place.ensures c.in-Err-take.ensures c.in-Ok.ensures

pub returns-in-Err : goal.returns-in-Err
returns-in-Err g c = gave_none c.args.self.now _ _ _ _ c.in-Err.below c.stand.result c.stand.ensures c.in-Err.ensures
