use Rattle.mesh_table.proofs.Nearing.{Near}
use Rattle.mesh_table.proofs.slots.lowest.lowest_of.Given as goal

abbrev pub invariant-loop-slot : goal.invariant-loop-slot
invariant-loop-slot g l = Near l.slots l.slot-index l.most l.lowest
