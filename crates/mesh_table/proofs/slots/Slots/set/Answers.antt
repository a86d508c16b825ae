use Rattle.std.proofs.Common.{List, sym, subst}
use Rattle.mesh_table.specs.Probing.{Slot, EndsAt}
use Rattle.mesh_table.proofs.Writes.{Took, took}
use Rattle.mesh_table.proofs.slots.Slots.set.Goals as goal

after : (g : _) (c : goal.After-put g) → Took g.row.N c.args.self.now c.put.new.self.array c.args.key c.args.value
after g c =
    let n = g.row.N in
    let ring = c.self.inside.ring in
    let ends = subst (λ (x : List (Slot g.row.V.Denot)). EndsAt n x c.args.key c.args.i) (sym c.self.view_is) c.requires in
    subst (λ (x : List (Slot g.row.V.Denot)). Took n x c.put.new.self.array c.args.key c.args.value) c.self.view_is
    (subst (λ (x : List (Slot g.row.V.Denot)). Took n ring.array x c.args.key c.args.value) (sym c.put.ensures)
    (took n ring.array ring.long c.self.invariant.distinct ring.has_slots c.self.invariant.reached c.args.key c.args.value c.args.i ends))

pub invariant_of-self : goal.invariant_of-self
invariant_of-self g c = (after g c).sound

pub returns-clause-becomes : goal.returns-clause-becomes
returns-clause-becomes g c = (after g c).becomes

pub returns-clause-counted : goal.returns-clause-counted
returns-clause-counted g c = (after g c).counted

pub returns-clause-sound : goal.returns-clause-sound
returns-clause-sound g c = (after g c).sound
