use Rattle.std.proofs.Common.{sym, subst}
use Rattle.mesh_stream.specs.Calls.{SameKind}
use Rattle.mesh_layer.proofs.Asking.{nothing_asked, asked, same_kind_trans, same_kind_refl}
use Rattle.mesh_layer.proofs.layer.stage.LayerStage.next.Goals as goal

pub loop-self-init : goal.loop-self-init
loop-self-init g c = (nothing_asked _ _, same_kind_refl _)

pub returns-in-Some-take_in-clause-asks : goal.returns-in-Some-take_in-clause-asks
returns-in-Some-take_in-clause-asks g c =
    (asked g.F.Filter g.S.Stage.meaning c.args.self.now c.loop-self.self c.give.new.self c.give.new.rest c.in-Ok.item c.next.new.self c.take_in.new.self.below _ _ _
    c.loop-self.invariant.0 c.in_default.is c.in_default-give.ensures c.in-Ok.ensures.first c.in-Some-take_in.ensures.below c.in-Some-take_in.ensures.took).asks

pub loop-self-preserved : goal.loop-self-preserved
loop-self-preserved g c = (
  asked g.F.Filter g.S.Stage.meaning c.args.self.now c.loop-self.self c.give.new.self c.give.new.rest c.in-Ok.item c.next.new.self c.take_in.new.self.below _ _ _
      c.loop-self.invariant.0 c.in_default.is c.in_default-give.ensures c.in-Ok.ensures.first c.in_default-take_in.ensures.below c.in_default-take_in.ensures.took,
  subst (λ s. SameKind (g.S.Stage.port c.args.self.now.below) (g.S.Stage.port s)) (sym c.in_default-take_in.ensures.below) (same_kind_trans _ _ _ c.loop-self.invariant.1 c.in-Ok.ensures.port_kept),
)
