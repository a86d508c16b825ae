use Rattle.std.proofs.Common.{refl}
use Rattle.mesh_windows.specs.Working.{check_work}
use Rattle.mesh_filters.specs.Handing.{events_of}
use Rattle.mesh_filters.proofs.Handing.{hands_over, not_handed}
use Rattle.mesh_filters.proofs.check.Check.judged.Goals as goal

pub returns-in_err-triangle-in-Triangle : goal.returns-in_err-triangle-in-Triangle
returns-in_err-triangle-in-Triangle c =
    let no = c.in_err-triangle-in-Triangle.ensures c.in-Triangle.place in
    rw c.in-Triangle.is (not_handed check_work _ _ 0 _ events_of _ _ no c.from_residual-in_err-triangle-in-Triangle.ensures.1)

pub returns-in_err-finalization-in-Finalization : goal.returns-in_err-finalization-in-Finalization
returns-in_err-finalization-in-Finalization c =
    let no = c.in_err-finalization-in-Finalization.ensures c.in-Finalization.place in
    let is = c.from_residual-in_err-finalization-in-Finalization.ensures.1 in
    rw c.in-Finalization.is (not_handed check_work _ _ 0 _ events_of _ _ no is)

pub returns-in_ok-triangle-in-Triangle : goal.returns-in_ok-triangle-in-Triangle
returns-in_ok-triangle-in-Triangle c =
    let yes = c.in_ok-triangle-in-Triangle.ensures.0 c.in-Triangle.place in
    rw c.in-Triangle.is (hands_over check_work _ _ 0 0 _ _ _ yes refl refl)

pub returns-in_ok-finalization-in-Finalization : goal.returns-in_ok-finalization-in-Finalization
returns-in_ok-finalization-in-Finalization c =
    let yes = c.in_ok-finalization-in-Finalization.ensures.0 c.in-Finalization.place in
    rw c.in-Finalization.is (hands_over check_work _ _ 0 0 _ _ _ yes refl refl)
