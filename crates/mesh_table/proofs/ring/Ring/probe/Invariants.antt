use Rattle.mesh_table.specs.Probing.{Passed}
use Rattle.mesh_table.proofs.ring.Ring.probe.Given as goal

abbrev pub invariant-loop-distance : goal.invariant-loop-distance
invariant-loop-distance g l = Passed g.row.N l.self.array l.key l.distance
