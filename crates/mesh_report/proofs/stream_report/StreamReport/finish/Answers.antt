use Rattle.mesh_report.proofs.Streaming.{will_finish}
use Rattle.mesh_report.proofs.stream_report.StreamReport.finish.Goals as goal

pub returns : goal.returns
returns g c = will_finish _ _ _ _ _ _ _ _ (g.S.Stage.lawful c.args.self.stage) c.close.result c.close.ensures c.run_out.ensures
