use Rattle.mesh_piles.specs.Texts.{text_outcome}
use Rattle.report.proofs.report_on_text.Goals as goal

pub returns : goal.returns
returns g c = c.report_on.ensures text_outcome c.text_report.ensures
