use Rattle.mesh_table.proofs.Finite.{size_none}
use Rattle.mesh_table.proofs.Writes.{distinct_none, reached_none}
use Rattle.mesh_table.proofs.ring.Ring.empty.Goals as goal

pub returns : goal.returns
returns g c =
    let n = g.row.N in
    record { sound = record { distinct = distinct_none n; reached = reached_none n }; bare = size_none g.row.V.Denot n }
