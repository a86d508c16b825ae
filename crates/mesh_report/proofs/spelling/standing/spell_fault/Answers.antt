use Rattle.mesh_report.proofs.Joining.{behind}
use Rattle.mesh_report.proofs.spelling.standing.spell_fault.Goals as goal

pub returns-clause-written : goal.returns-clause-written
returns-clause-written c = behind _ _ _ _ _ _ _ c.spell_layer-at.ensures.written c.spell_cause_and_place.ensures.written
