use Rattle.std.proofs.Common.{◌+◌, None, sym, ◌∙◌, subst, arith}
use Rattle.std.proofs.lemmas.List.{get_or_default}
use Rattle.mesh_table.specs.LowestVertex.{LowestIn}
use Rattle.mesh_table.proofs.Nearing.{Near, near_step, near_none, near_some}
use Rattle.mesh_table.proofs.slots.lowest.lowest_of.Goals as goal

pub loop-slot-preserved : goal.loop-slot-preserved
loop-slot-preserved g c =
    let ss = c.args.slots.now in
    let i = c.loop-slot.slot-index in
    subst (Near ss (i + 1) c.args.most) (sym c.lower-lowest.ensures)
    (near_step ss i c.args.most c.loop-slot.lowest c.requires c.loop-slot.invariant c.slot-item.result
    (get_or_default ss i None c.slot-item.result c.loop-slot-test.true ∙ sym c.slot-item.is))

pub returns-in_err-lowest : goal.returns-in_err-lowest
returns-in_err-lowest g c =
    let ss = c.args.slots.now in
    subst (LowestIn ss c.args.most) (sym c.from_residual.ensures)
    (near_none ss c.loop-slot.slot-index c.args.most (omega arith)
    (subst (Near ss c.loop-slot.slot-index c.args.most) c.in_err-lowest.was c.loop-slot.invariant))

pub returns : goal.returns
returns g c =
    let ss = c.args.slots.now in
    near_some ss c.loop-slot.slot-index c.args.most (omega arith) c.in_ok-lowest.field-0
    (subst (Near ss c.loop-slot.slot-index c.args.most) c.in_ok-lowest.was c.loop-slot.invariant)
