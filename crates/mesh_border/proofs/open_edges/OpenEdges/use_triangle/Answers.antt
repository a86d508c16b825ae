use Rattle.std.proofs.Common.{sym, ◌∙◌}
use Rattle.mesh_border.proofs.Edging.{three_used}
use Rattle.mesh_border.proofs.open_edges.OpenEdges.use_triangle.Goals as goal

pub returns-then-all_different-clause-used : goal.returns-then-all_different-clause-used
returns-then-all_different-clause-used c =
    three_used c.args.self.now c.use_edge.new.self c.use_edge-then-all_different.new.self
    c.use_edge-then-all_different-2.new.self c.args.place c.args.a c.args.b c.args.c
    (sym c.all_different.ensures ∙ c.if-all_different.true) c.use_edge.ensures.used
    c.use_edge-then-all_different.ensures.used c.use_edge-then-all_different-2.ensures.used
