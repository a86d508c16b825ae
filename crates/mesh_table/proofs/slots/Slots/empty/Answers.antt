use Rattle.mesh_table.proofs.Finite.{lookup_zero}
use Rattle.mesh_table.proofs.slots.Slots.empty.Goals as goal

pub returns-clause-bare : goal.returns-clause-bare
returns-clause-bare g c q = lookup_zero _ q c.empty.ensures.bare
