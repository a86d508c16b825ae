use Rattle.mesh_judge.proofs.Judging.{gone_stray}
use Rattle.mesh_judge.proofs.judge.Judge.take_out.Goals as goal

pub invariant_of-self : goal.invariant_of-self
invariant_of-self g c =
    let j = c.args.self.now in
    record { sound = gone_stray j.live c.remove.new.self j.highest j.sound c.vertex.result c.remove.ensures.2; numbers = j.numbers; few = j.few }
