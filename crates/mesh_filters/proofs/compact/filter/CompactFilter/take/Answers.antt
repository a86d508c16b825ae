use Rattle.std.proofs.Common.{refl}
use Rattle.mesh_stream.specs.declared.fault.LayerName.TheVariants.{Compact as Compacting}
use Rattle.mesh_windows.specs.Working.{compact_work}
use Rattle.mesh_filters.specs.Compacting.{nothing, listed}
use Rattle.mesh_filters.proofs.Handing.{takes}
use Rattle.mesh_filters.proofs.compact.filter.CompactFilter.take.Goals as goal

pub returns : goal.returns
returns c =
    rw c.or_fault.ensures (takes Compacting compact_work c.args.self.now.judge c.args.self.now.given listed nothing refl c.args.item
    c.judged.result c.judged.new.self.judge c.judged.new.self.given c.judged.ensures)
