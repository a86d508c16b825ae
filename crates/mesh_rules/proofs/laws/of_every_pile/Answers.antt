use Rattle.mesh_rules.proofs.Faithful.{faithful}
use Rattle.mesh_rules.proofs.Layers.{rewriting_laws}
use Rattle.mesh_rules.proofs.Piling.{pile_laws}
use Rattle.mesh_rules.proofs.laws.of_every_pile.Goals as goal

pub returns : goal.returns
returns c = record { of_looking_up = faithful; of_rewritings = rewriting_laws; of_piles = pile_laws }
