use Rattle.std.proofs.Common.{◌∙◌}
use Rattle.mesh_stream.specs.declared.fault.LayerName.TheVariants.{Clip as Clipping}
use Rattle.mesh_windows.specs.Working.{clip_work}
use Rattle.mesh_windows.proofs.Passing.{clip_whole}
use Rattle.mesh_filters.proofs.Handing.{begins}
use Rattle.mesh_filters.proofs.clip.Clip.new.Goals as goal

pub returns : goal.returns
returns g c =
    let inside = g.R.Region.inside c.args.region in
    λ o. begins Clipping (clip_work inside) _ c.new.ensures o ∙ clip_whole inside 1024 o
