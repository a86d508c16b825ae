use Rattle.mesh_rules.specs.Piling.{checks}
use Rattle.mesh_piles.proofs.pile.check.Goals as goal

pub returns : goal.returns
returns g c = c.over.ensures.rule 1024 checks c.new.ensures
