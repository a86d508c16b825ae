use Rattle.std.proofs.Common.{◌≡◌, ℕ, ◌≤◌, List, length, take, drop}
use Rattle.mesh_stream.specs.declared.event.Event.{Event}
use Rattle.mesh_stream.specs.Runs.{Call, Run}
use Rattle.mesh_layer.specs.Layering.{seen}
use Rattle.mesh_layer.specs.Orders.{AreCalls}
use Rattle.mesh_layer.proofs.work.work_off.Given as goal

abbrev pub invariant-loop-i : goal.invariant-loop-i
invariant-loop-i g l =
    (length l.log ≡ length l.initial.log)
    × ((j : ℕ) → l.i ≤ j → drop j l.log ≡ drop j l.initial.log)
    × ((cs : List (Call Event)) × AreCalls (take l.i l.fn.orders) (take l.i l.log) cs × Run (seen g.P.Stage l.initial.pile) cs (seen g.P.Stage l.pile))
