use Rattle.std.proofs.Common.{length, []}
use Rattle.mesh_stream.specs.Meaning.{unclosed}
use Rattle.mesh_stream.specs.Calls.{SameKind}
use Rattle.mesh_layer.specs.Layering.{makes}
use Rattle.mesh_layer.proofs.Asking.{Asking}
use Rattle.mesh_layer.proofs.layer.stage.LayerStage.next.Given as goal

abbrev pub invariant-loop-self : goal.invariant-loop-self
invariant-loop-self g l =
    Asking (makes g.F.Filter l.initial.self) (makes g.F.Filter l.self) (g.S.Stage.meaning l.initial.self.below) (g.S.Stage.meaning l.self.below)
    × SameKind (g.S.Stage.port l.initial.self.below) (g.S.Stage.port l.self.below)

abbrev pub decreases-loop-self : goal.decreases-loop-self
decreases-loop-self g l = length (g.S.Stage.meaning l.self.below [] unclosed).items
