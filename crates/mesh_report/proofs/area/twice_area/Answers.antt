use Rattle.std.proofs.Common.{sym, subst, arith, w64, SFits}
use Rattle.mesh_report.proofs.Areas.{bits_difference, within_fits}
use Rattle.mesh_report.proofs.area.twice_area.Goals as goal

pub overflow_sub-result : goal.overflow_sub-result
overflow_sub-result c =
    let p = bits_difference c.rectangle_of.result c.rectangle_of-2.result (record { sfits = c.rectangle_of.type_inv }) (record { sfits = c.rectangle_of-2.type_inv }) 40000000000 40000000000 80000000000 (omega arith) c.rectangle_of.ensures.1 c.rectangle_of-2.ensures.1 in
    subst (SFits w64) (sym p.0) (within_fits 80000000000 _ p.1 (omega arith))
