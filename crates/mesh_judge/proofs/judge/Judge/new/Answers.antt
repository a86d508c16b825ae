use Rattle.std.proofs.Common.{refl, arith}
use Rattle.mesh_judge.proofs.Judging.{empty_stray, begun}
use Rattle.mesh_judge.proofs.judge.Judge.new.Goals as goal

pub invariant_of-result : goal.invariant_of-result
invariant_of-result g c = record { sound = empty_stray c.no_vertices.result 1024 0 c.no_vertices.ensures; numbers = omega arith; few = omega arith }

pub returns : goal.returns
returns g c = begun _ 1024 c.no_vertices.ensures refl refl
