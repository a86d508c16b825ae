use Rattle.std.proofs.Common.{refl}
use Rattle.mesh_border.proofs.Keeping.{kept_first}
use Rattle.mesh_border.proofs.Making.{begins}
use Rattle.mesh_border.proofs.border.Border.new.Goals as goal

pub invariant_of-result : goal.invariant_of-result
invariant_of-result c = record { kept = kept_first _ _ _ c.new-judge.ensures c.new-edges.ensures.none c.new-neighbours.ensures.free; long = refl }

pub returns : goal.returns
returns c = begins c.new-judge.result c.new-edges.result c.new-judge.ensures c.new-edges.ensures.none c.new-edges.ensures.most
