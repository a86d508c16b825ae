use Rattle.std.proofs.Common.{None, refl}
use Rattle.mesh_stream.specs.declared.fault.LayerName.TheVariants.{Renumber as Renumbering}
use Rattle.mesh_windows.specs.Working.{renumber_work}
use Rattle.mesh_filters.specs.Handing.{events_of}
use Rattle.mesh_filters.proofs.Handing.{takes}
use Rattle.mesh_filters.proofs.renumber.filter.RenumberFilter.take.Goals as goal

pub returns : goal.returns
returns c =
    let f = c.args.self.now in
    let n = c.judged.new.self in
    rw c.or_fault.ensures
    (takes Renumbering renumber_work f.judge f.given events_of None refl c.args.item c.judged.result n.judge n.given c.judged.ensures)
