use Rattle.std.proofs.Common.{ℕ, List, ◌++◌, length}
use Rattle.mesh_stream.specs.declared.event.Event.{Event}
use Rattle.mesh_stream.specs.Meaning.{Outcome}
use Rattle.mesh_report.specs.Streaming.{WillSay}
use Rattle.mesh_report.proofs.stream_report.StreamReport.push.Given as goal

abbrev pub invariant-loop-self : goal.invariant-loop-self
invariant-loop-self g l = (t : List ℕ) (o : Outcome Event) → WillSay g.S.Stage.meaning l.initial.self (l.initial.rest ++ t) o → WillSay g.S.Stage.meaning l.self (l.rest ++ t) o

abbrev pub decreases-loop-self : goal.decreases-loop-self
decreases-loop-self g l = length l.rest
