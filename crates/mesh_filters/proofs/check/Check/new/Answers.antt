use Rattle.std.proofs.Common.{◌∙◌}
use Rattle.mesh_stream.specs.declared.fault.LayerName.TheVariants.{Check as Checking}
use Rattle.mesh_windows.specs.Working.{check_work}
use Rattle.mesh_windows.proofs.Passing.{check_whole}
use Rattle.mesh_filters.proofs.Handing.{begins}
use Rattle.mesh_filters.proofs.check.Check.new.Goals as goal

pub returns : goal.returns
returns c = λ o. begins Checking check_work _ c.new.ensures o ∙ check_whole 1024 o
