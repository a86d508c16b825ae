use Rattle.mesh_table.proofs.Holes.{Far}
use Rattle.mesh_table.proofs.ring.Ring.cut_off.Given as goal

abbrev pub invariant-loop-distance : goal.invariant-loop-distance
invariant-loop-distance g l = Far g.row.N l.self.array l.hole l.distance
