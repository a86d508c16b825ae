use Rattle.std.proofs.Common.{rules}
use Rattle.mesh_border.proofs.Edging.{changed_open}
use Rattle.mesh_border.proofs.open_edges.OpenEdges.use_edge.Goals as goal

pub returns-in-Some-clause-used : goal.returns-in-Some-clause-used
returns-in-Some-clause-used c =
    changed_open c.args.self.now c.change.new.self c.args.edge c.edge-key.result c.find.result c.in-Some.open _ c.change.result c.change.ensures
    c.edge-key.ensures.key c.find.ensures c.in-Some.is (search rules)
