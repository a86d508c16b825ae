use Rattle.mesh_judge.proofs.Judging.{stands_at_end, stands_before_end}
use Rattle.mesh_judge.proofs.judge.Judge.stand.Goals as goal

pub returns-in-Ended : goal.returns-in-Ended
returns-in-Ended g c = stands_at_end c.args.self.now c.args.layer c.args.below c.end_by.result c.lowest_vertex.result c.in-Ended.is c.lowest_vertex.ensures c.end_by.ensures

pub returns-in-Waiting : goal.returns-in-Waiting
returns-in-Waiting g c = stands_before_end c.args.self.now c.args.layer c.args.below c.in-Waiting.is
