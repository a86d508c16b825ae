use Rattle.std.proofs.Common.{ℕ, cond, List, is_some, sym, ap, ◌∙◌, subst, arith, rules}
use Rattle.mesh_table.specs.Probing.{Slot, slot_at, Has}
use Rattle.mesh_table.proofs.Writes.{Emptied, emptied, becomes_alike}
use Rattle.mesh_table.proofs.slots.Slots.remove.Goals as goal

taken : (g : _) (c : goal.After-close_up-arg-1 g) → Emptied g.row.N c.args.self.now c.put.new.self.array c.args.key c.in-Found.i
taken g c =
    let n = g.row.N in
    let ring = c.self.inside.ring in
    let has = subst (λ (x : List (Slot g.row.V.Denot)). Has (slot_at x c.in-Found.i) c.args.key) (sym c.self.view_is) c.in-Found.ensures.0 in
    subst (λ (x : List (Slot g.row.V.Denot)). Emptied n x c.put.new.self.array c.args.key c.in-Found.i) c.self.view_is
    (subst (λ (x : List (Slot g.row.V.Denot)). Emptied n ring.array x c.args.key c.in-Found.i) (sym c.put.ensures)
    (emptied n ring.array ring.long c.self.invariant.distinct ring.has_slots c.self.invariant.reached c.args.key c.in-Found.i has))

pub close_up-requires : goal.close_up-requires
close_up-requires g c = (search rules, (search rules, (taken g c).holed))

pub returns-in-Found-clause-becomes : goal.returns-in-Found-clause-becomes
returns-in-Found-clause-becomes g c = becomes_alike (taken g c.before).becomes c.close_up.ensures.alike

pub returns-in-Found-clause-counted : goal.returns-in-Found-clause-counted
returns-in-Found-clause-counted g c =
    let found = c.in-Found.ensures in
    let there = ap is_some (c.value-value.ensures ∙ sym found.1) ∙ found.2 in
    omega (arith, c.close_up.ensures.alike.size, (taken g c.before).counted, ap (λ b. cond {A = ℕ} b 1 0) there)
