use Rattle.std.proofs.Common.{◌≡◌, ℕ, List, length}
use Rattle.mesh_stream.specs.declared.event.Event.{Event}
use Rattle.mesh_stream.specs.Meaning.{Outcome}
use Rattle.mesh_report.specs.Streaming.{WillSay}
use Rattle.report.proofs.Telling.{Told}
use Rattle.report.proofs.Turns.{TurnsOf}
use Rattle.report.proofs.report_on.Given as goal

abbrev pub invariant-loop : goal.invariant-loop
invariant-loop g l = record {
  piece : length l.piece ≡ 16384;
  told : (says : List ℕ → Outcome Event) → ((t : List ℕ) → WillSay g.S.Stage.meaning l.initial.report t (says t))
      → Told g.S.Stage.meaning says (g.R.Read.remaining l.initial.input) (g.R.Read.remaining l.input) l.report;
  turns : TurnsOf (g.R.Read.remaining l.initial.input) (g.R.Read.remaining l.input) l.counter;
}
