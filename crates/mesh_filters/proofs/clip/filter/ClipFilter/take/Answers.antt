use Rattle.std.proofs.Common.{None, refl}
use Rattle.mesh_stream.specs.declared.fault.LayerName.TheVariants.{Clip as Clipping}
use Rattle.mesh_windows.specs.Working.{clip_work}
use Rattle.mesh_filters.specs.Handing.{events_of}
use Rattle.mesh_filters.proofs.Handing.{takes}
use Rattle.mesh_filters.proofs.clip.filter.ClipFilter.take.Goals as goal

pub returns : goal.returns
returns g c =
    let f = c.args.self.now in
    let k = c.judged.new.self.judge in
    let work = clip_work (g.R.Region.inside f.region) in
    rw (c.or_fault.ensures, c.judged.ensures.region)
    (takes Clipping work f.judge 0 events_of None refl c.args.item c.judged.result k 0 c.judged.ensures.handed)
