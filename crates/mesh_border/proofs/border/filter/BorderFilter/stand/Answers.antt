use Rattle.mesh_border.proofs.Making.{stands_so}
use Rattle.mesh_border.proofs.border.filter.BorderFilter.stand.Goals as goal

pub returns : goal.returns
returns c = stands_so c.args.self.now c.args.below c.stand.result c.stand.ensures
