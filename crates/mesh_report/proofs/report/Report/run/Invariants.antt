use Rattle.mesh_report.proofs.Running.{Running}
use Rattle.mesh_report.proofs.report.Report.run.Given as goal

abbrev pub invariant-loop-taken : goal.invariant-loop-taken
invariant-loop-taken g l = Running l.initial.self l.self (g.S.Stage.port l.initial.stage) (g.S.Stage.meaning l.initial.stage) (g.S.Stage.port l.stage) (g.S.Stage.meaning l.stage) l.taken
