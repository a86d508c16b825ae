use Rattle.mesh_rules.specs.Piling.{clips}
use Rattle.mesh_piles.proofs.pile.clip.Goals as goal

pub returns : goal.returns
returns g c = c.over.ensures.rule 1024 (clips (g.R.Region.inside c.args.region)) c.new.ensures
