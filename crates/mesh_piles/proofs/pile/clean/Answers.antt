use Rattle.mesh_rules.specs.Piling.{cleans}
use Rattle.mesh_piles.proofs.pile.clean.Goals as goal

pub returns : goal.returns
returns g c = c.over.ensures.rule 1024 cleans c.new.ensures
