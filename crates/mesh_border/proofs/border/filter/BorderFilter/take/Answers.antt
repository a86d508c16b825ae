use Rattle.mesh_border.proofs.Making.{takes}
use Rattle.mesh_border.proofs.border.filter.BorderFilter.take.Goals as goal

pub returns : goal.returns
returns c = rw c.or_fault.ensures (takes c.args.self.now c.args.item c.judged.new.self c.judged.result c.judged.ensures)
