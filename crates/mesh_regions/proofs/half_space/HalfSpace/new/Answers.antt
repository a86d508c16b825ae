use Rattle.std.proofs.Common.{arith, rules}
use Rattle.std.proofs.lemmas.Int.{to_z-of_z}
use Rattle.mesh_regions.proofs.half_space.HalfSpace.new.Goals as goal

pub returns : goal.returns
returns c = record { is_allowed = search rules; has_set = λ at. grind (arith, to_z-of_z) }
