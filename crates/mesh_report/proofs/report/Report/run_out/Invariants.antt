use Rattle.std.proofs.Common.{ℕ, [], length}
use Rattle.mesh_stream.specs.Meaning.{unclosed}
use Rattle.mesh_report.proofs.Running.{Running}
use Rattle.mesh_report.proofs.report.Report.run_out.Given as goal

abbrev pub invariant-loop-standing : goal.invariant-loop-standing
invariant-loop-standing g l = (n : ℕ) × Running l.initial.self l.self (g.S.Stage.port l.initial.stage) (g.S.Stage.meaning l.initial.stage) (g.S.Stage.port l.stage) (g.S.Stage.meaning l.stage) n

abbrev pub decreases-loop-standing : goal.decreases-loop-standing
decreases-loop-standing g l = length (g.S.Stage.meaning l.stage [] unclosed).items
