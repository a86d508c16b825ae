use Rattle.mesh_rules.specs.Piling.{renumbers}
use Rattle.mesh_piles.proofs.pile.renumber.Goals as goal

pub returns : goal.returns
returns g c = c.over.ensures.rule 1024 renumbers c.new.ensures
