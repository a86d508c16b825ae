use Rattle.mesh_report.proofs.spelling.number.+spell_number.Given as goal

abbrev pub decreases-spell_number : goal.decreases-spell_number
decreases-spell_number l = l.n
