use Rattle.std.proofs.Common.{refl}
use Rattle.mesh_report.specs.Spelling.{spelled, entry, next_number}
use Rattle.mesh_report.proofs.spelling.spelling_examples.Goals as goal

pub returns : goal.returns
unfolding spelled entry next_number
returns c = record { nothing = refl; largest_area = refl; smallest_area = refl }
