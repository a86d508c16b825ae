use Rattle.mesh_border.proofs.BorderLaw.{border_on}
use Rattle.mesh_border.proofs.border_list.border_list.Goals as goal

pub returns : goal.returns
returns g c = border_on 1024 4096 _ _ _ c.new-2.ensures c.new.ensures
