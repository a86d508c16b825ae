use Rattle.std.proofs.Common.{sym, subst}
use Rattle.mesh_judge.specs.Judging.{Left}
use Rattle.mesh_judge.proofs.Judging.{finalized}
use Rattle.mesh_judge.proofs.judge.Judge.finalization.Goals as goal

pub returns : goal.returns
returns g c =
    let j = c.args.self.now in
    let k = c.take_out.new.self in
    subst (λ r. Left j c.args.vertex r k) (sym c.ok_or.ensures.value) (finalized j k c.args.vertex c.take_out.result c.take_out.ensures)
