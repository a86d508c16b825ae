use Rattle.std.proofs.Common.{None, refl}
use Rattle.mesh_stream.specs.declared.fault.LayerName.TheVariants.{Clean as Cleaning}
use Rattle.mesh_windows.specs.Working.{clean_work}
use Rattle.mesh_filters.specs.Handing.{events_of}
use Rattle.mesh_filters.proofs.Handing.{takes}
use Rattle.mesh_filters.proofs.clean.filter.CleanFilter.take.Goals as goal

pub returns : goal.returns
returns c =
    let j = c.args.self.now.judge in
    let k = c.judged.new.self.judge in
    rw c.or_fault.ensures (takes Cleaning clean_work j 0 events_of None refl c.args.item c.judged.result k 0 c.judged.ensures)
