use Rattle.std.proofs.Common.{◌∙◌}
use Rattle.mesh_stream.specs.declared.fault.LayerName.TheVariants.{Compact as Compacting}
use Rattle.mesh_windows.specs.Working.{compact_work}
use Rattle.mesh_windows.proofs.Compacting.{compact_whole}
use Rattle.mesh_filters.proofs.Handing.{begins}
use Rattle.mesh_filters.proofs.compact.Compact.new.Goals as goal

pub returns : goal.returns
returns c = λ o. begins Compacting compact_work c.new.result c.new.ensures o ∙ compact_whole 1024 o
