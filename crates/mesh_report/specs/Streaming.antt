-- What a report over a stream of text will say.
use Rattle.std.specs.Prelude.{◌≡◌, ℕ, List, ◌++◌}
use Rattle.mesh_stream.specs.declared.event.Event.{Event}
use Rattle.mesh_stream.specs.declared.stage.Standing.{Standing}
use Rattle.mesh_stream.specs.declared.stage.Standing.TheVariants.{Waiting, Ended, Faulty}
use Rattle.mesh_stream.specs.Meaning.{closed, Outcome, outcome, Meaning}
use Rattle.mesh_report.specs.declared.report.Report.{Report}
use Rattle.mesh_report.specs.declared.stream_report.StreamReport.{StreamReport}
use Rattle.mesh_report.specs.Spelling.{report_text}
use Rattle.mesh_report.specs.Reporting.{totals_of, reported, Taken}

-- What a report that took es and stands so will have taken, and how it will stand, once it took all of what is below.
abbrev pub resumed : List Event → Standing → Outcome Event → Outcome Event
resumed es Waiting below = reported (outcome (es ++ below.items) below.stands)
resumed es Ended below = outcome es Ended
resumed es (Faulty f) below = outcome es (Faulty f)

-- If the text t came next on a stage of meaning G, and then the close, the report r would be that of o.
pub record WillReport (G : Meaning Event) (r : Report) (t : List ℕ) (o : Outcome Event) : Type 0 where
  pub so_far : List Event
  pub taken : Taken r so_far
  pub then_on : o ≡ resumed so_far r.standing (G t closed)

-- The same of a report over a stream, whose stage has this meaning.
abbrev pub WillSay : {S : Type 0} → (S → Meaning Event) → StreamReport S → List ℕ → Outcome Event → Type 0
WillSay means x t o = WillReport (means x.stage) x.report t o

-- The report of an outcome, spelled.
abbrev pub report_of : Outcome Event → List ℕ
report_of o = report_text (totals_of o.items) o.stands

-- The report is that of o.
pub record Finished (r : Report) (o : Outcome Event) : Type 0 where
  pub taken : Taken r o.items
  pub standing : r.standing ≡ o.stands
  pub text : report_text r.totals r.standing ≡ report_of o
