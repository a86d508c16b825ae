use Rattle.mesh_stream.specs.Runs.{viewed}
use Rattle.mesh_stream.proofs.Running.{left}
use Rattle.mesh_stream.proofs.runs.every_run.Goals as goal

pub returns : goal.returns
returns g c = λ cs w r.
    let s = c.args.stage.now in
    left cs (viewed (g.S.Stage.port s) (g.S.Stage.meaning s) (g.S.Stage.lawful s)) w r
