use Rattle.mesh_border.proofs.Rows.{none_each, all_free, all_wide}
use Rattle.mesh_border.proofs.neighbours.Neighbours.new.Goals as goal

pub invariant_of-result-clause-free_rows : goal.invariant_of-result-clause-free_rows
invariant_of-result-clause-free_rows c = all_free c.all_rows.result c.all_rows.ensures.rows

pub invariant_of-result-clause-wide : goal.invariant_of-result-clause-wide
invariant_of-result-clause-wide c = all_wide

pub returns-clause-bare : goal.returns-clause-bare
returns-clause-bare c = λ r. none_each _ 1024 r
