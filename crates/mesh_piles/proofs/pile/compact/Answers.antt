use Rattle.mesh_rules.specs.Piling.{compacts}
use Rattle.mesh_piles.proofs.pile.compact.Goals as goal

pub returns : goal.returns
returns g c = c.over.ensures.rule 1024 compacts c.new.ensures
