use Rattle.std.proofs.Common.{List, subst}
use Rattle.mesh_table.specs.Probing.{Slot, Sought}
use Rattle.mesh_table.proofs.Steps.{home_below}
use Rattle.mesh_table.proofs.Absent.{sought}
use Rattle.mesh_table.proofs.slots.Slots.seek.Goals as goal

pub returns : goal.returns
returns g c =
    let n = g.row.N in
    let k = c.args.key in
    let ring = c.self.inside.ring in
    subst (λ (x : List (Slot g.row.V.Denot)). Sought n x k c.probe.result) c.self.view_is
    (sought n ring.array k ring.long (home_below n k ring.has_slots) c.self.invariant.distinct c.self.invariant.reached
    c.probe.result c.probe.ensures)
