-- What is said of a report, by an outcome that is the same.
use Rattle.std.proofs.Common.{◌≡◌, ℕ, List, subst}
use Rattle.mesh_stream.specs.declared.event.Event.{Event}
use Rattle.mesh_stream.specs.Meaning.{Outcome, Meaning}
use Rattle.mesh_report.specs.declared.report.Report.{Report}
use Rattle.mesh_report.specs.Reporting.{reported}
use Rattle.mesh_report.specs.Streaming.{WillReport}

pub said_of : (G : Meaning Event) (r : Report) (t : List ℕ) (o n : Outcome Event) → o ≡ n → WillReport G r t (reported o)
    → WillReport G r t (reported n)
said_of G r t o n e w = subst (λ z. WillReport G r t (reported z)) e w
