use Rattle.std.proofs.Common.{◌≡◌, length, take, map}
use Rattle.mesh_stream.specs.Runs.{asks, Run}
use Rattle.mesh_layer.specs.Layering.{seen}
use Rattle.mesh_layer.proofs.work.ask_on.Given as goal

abbrev pub invariant-loop-i : goal.invariant-loop-i
invariant-loop-i g l =
    (length l.log ≡ length l.initial.log)
    × Run (seen g.P.Stage l.initial.pile) (map asks (take l.i l.log)) (seen g.P.Stage l.pile)
