use Rattle.std.proofs.Common.{◌∙◌}
use Rattle.mesh_stream.specs.declared.fault.LayerName.TheVariants.{Clean as Cleaning}
use Rattle.mesh_windows.specs.Working.{clean_work}
use Rattle.mesh_windows.proofs.Passing.{clean_whole}
use Rattle.mesh_filters.proofs.Handing.{begins}
use Rattle.mesh_filters.proofs.clean.Clean.new.Goals as goal

pub returns : goal.returns
returns c = λ o. begins Cleaning clean_work _ c.new.ensures o ∙ clean_whole 1024 o
