use Rattle.mesh_table.specs.Probing.{Holed, Alike}
use Rattle.mesh_table.proofs.Drift.{drift}
use Rattle.mesh_table.proofs.ring.Ring.close_up.Given as goal

abbrev pub invariant-loop-i : goal.invariant-loop-i
invariant-loop-i g l = record { holed : Holed g.row.N l.self.array l.hole; alike : Alike l.initial.self.array l.self.array }

abbrev pub decreases-loop-i : goal.decreases-loop-i
decreases-loop-i g l = drift g.row.N 0 l.self.array
