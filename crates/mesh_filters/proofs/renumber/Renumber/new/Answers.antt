use Rattle.std.proofs.Common.{◌∙◌}
use Rattle.mesh_stream.specs.declared.fault.LayerName.TheVariants.{Renumber as Renumbering}
use Rattle.mesh_windows.specs.Working.{renumber_work}
use Rattle.mesh_windows.proofs.Renumbering.{renumber_whole}
use Rattle.mesh_filters.proofs.Handing.{begins}
use Rattle.mesh_filters.proofs.renumber.Renumber.new.Goals as goal

pub returns : goal.returns
returns c = λ o. begins Renumbering renumber_work _ c.new.ensures o ∙ renumber_whole 1024 o
