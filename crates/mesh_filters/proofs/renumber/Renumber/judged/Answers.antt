use Rattle.std.proofs.Common.{[], ◌∷◌, sym, refl}
use Rattle.mesh_stream.specs.declared.event.Event.TheVariants.{Triangle, Finalization}
use Rattle.mesh_judge.specs.Judging.{window_of}
use Rattle.mesh_windows.specs.Working.{note_of, renumber_work}
use Rattle.mesh_filters.specs.Handing.{events_of}
use Rattle.mesh_filters.proofs.Handing.{hands_over, not_handed}
use Rattle.mesh_filters.proofs.Kept.{by_notes}
use Rattle.mesh_filters.proofs.renumber.Renumber.judged.Goals as goal

pub returns-in_err-a-in-Triangle : goal.returns-in_err-a-in-Triangle
returns-in_err-a-in-Triangle c =
    let n = c.args.self.now.given in
    let no = c.in_err-a-in-Triangle.ensures c.in-Triangle.place in
    rw c.in-Triangle.is (not_handed renumber_work _ _ n _ events_of _ _ no c.from_residual-in_err-a-in-Triangle.ensures.1)

pub returns-in_err-kept-in-Finalization : goal.returns-in_err-kept-in-Finalization
returns-in_err-kept-in-Finalization c =
    let n = c.args.self.now.given in
    let no = c.in_err-kept-in-Finalization.ensures c.in-Finalization.place in
    rw c.in-Finalization.is (not_handed renumber_work _ _ n _ events_of _ _ no c.from_residual-in_err-kept-in-Finalization.ensures.1)

pub returns-in_ok-a-in-Triangle : goal.returns-in_ok-a-in-Triangle
returns-in_ok-a-in-Triangle c =
    let f = c.args.self.now in
    let t = c.in-Triangle in
    let h = c.in_ok-a-in-Triangle.ensures in
    rw t.is (hands_over renumber_work _ _ f.given f.given _ _ _ (h.0 t.place) refl
    (by_notes (window_of f.judge) t.a t.b t.c _ h.1 0 (λ x y z. Triangle t.place x y z ∷ [])))

pub returns-in_ok-kept-in-Finalization : goal.returns-in_ok-kept-in-Finalization
returns-in_ok-kept-in-Finalization c =
    let f = c.args.self.now in
    let t = c.in-Finalization in
    let h = c.in_ok-kept-in-Finalization.ensures in
    rw t.is (hands_over renumber_work _ _ f.given f.given _ _ _ (h.0 t.place) refl
    (λ i. Finalization t.place (note_of 0 (sym h.1 i)) ∷ []))
