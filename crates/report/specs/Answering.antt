-- What is answered of a text.
use Rattle.std.specs.Prelude.{ℕ, ◌+◌, ◌^◌, ◌≤◌, List, length}
use Rattle.mesh_stream.specs.declared.event.Event.{Event}
use Rattle.mesh_stream.specs.Meaning.{Outcome}
use Rattle.mesh_report.specs.Streaming.{Finished}
use Rattle.report.specs.declared.Answer.{Answer}
use Rattle.report.specs.declared.Answer.TheVariants.{Whole, Endless}

-- The report is that of the text's outcome; or the text has 2^64 - 1 bytes or more.
abbrev pub AnswersAs : List ℕ → Outcome Event → Answer → Type 0
AnswersAs text o (Whole report) = Finished report o
AnswersAs text o Endless = 2 ^ 64 ≤ length text + 1
