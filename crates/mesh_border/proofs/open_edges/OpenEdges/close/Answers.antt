use Rattle.std.proofs.Common.{rules}
use Rattle.mesh_border.proofs.Edging.{closed_edge}
use Rattle.mesh_border.proofs.open_edges.OpenEdges.close.Goals as goal

pub returns : goal.returns
returns c = search (rules, closed_edge)
