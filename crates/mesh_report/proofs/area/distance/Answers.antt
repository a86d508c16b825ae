use Rattle.std.proofs.Common.{◌∙◌, w32}
use Rattle.std.proofs.lemmas.Int.{to_z-of_z}
use Rattle.mesh_report.proofs.Areas.{apart}
use Rattle.mesh_report.proofs.area.distance.Goals as goal

pub returns : goal.returns
returns c =
    apart c.args.to c.args.from c.from.result c.from-2.result (record { sfits = c.from.type_inv }) (record { sfits = c.from-2.type_inv })
    (c.from.ensures ∙ to_z-of_z w32 _ c.ranges.to) (c.from-2.ensures ∙ to_z-of_z w32 _ c.ranges.from) c.requires.1 c.requires.0
