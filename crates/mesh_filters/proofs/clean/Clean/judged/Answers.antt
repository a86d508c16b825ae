use Rattle.std.proofs.Common.{not, refl, ◌∙◌}
use Rattle.mesh_stream.specs.declared.event.Event.TheVariants.{Triangle}
use Rattle.mesh_judge.specs.Judging.{window_of}
use Rattle.mesh_windows.specs.Working.{only_if, clean_work}
use Rattle.mesh_filters.specs.Handing.{events_of}
use Rattle.mesh_filters.proofs.Handing.{hands_over, not_handed}
use Rattle.mesh_filters.proofs.Kept.{listed_if, degenerate_corners}
use Rattle.mesh_filters.proofs.clean.Clean.judged.Goals as goal
use Rattle.mesh_filters.proofs.clean.Clean.judged.Goals.{in-Vertex+in_ok-vertex-in-Vertex, in-Triangle+in_ok-a-in-Triangle, in-Finalization+in_ok-finalization-in-Finalization}

pub returns-in_err-a-in-Triangle : goal.returns-in_err-a-in-Triangle
returns-in_err-a-in-Triangle c =
    let no = c.in_err-a-in-Triangle.ensures c.in-Triangle.place in
    rw c.in-Triangle.is (not_handed clean_work _ _ 0 _ events_of _ _ no c.from_residual-in_err-a-in-Triangle.ensures.1)

pub returns-in_err-finalization-in-Finalization : goal.returns-in_err-finalization-in-Finalization
returns-in_err-finalization-in-Finalization c =
    let no = c.in_err-finalization-in-Finalization.ensures c.in-Finalization.place in
    let is = c.from_residual-in_err-finalization-in-Finalization.ensures.1 in
    rw c.in-Finalization.is (not_handed clean_work _ _ 0 _ events_of _ _ no is)

pub returns : goal.returns
returns c =
    let w_of = window_of c.args.self.now.judge in
    rw c.then_some.ensures (elim c.match-item.branch [
      | in-Vertex+in_ok-vertex-in-Vertex w ↦
          rw (w.self-is, w.item-is, w.sound-is, w.in-Vertex.is)
          (hands_over clean_work _ _ 0 0 _ _ _ w.in_ok-vertex-in-Vertex.ensures refl refl)
      | in-Triangle+in_ok-a-in-Triangle w ↦
          let t = w.in-Triangle in
          let h = w.in_ok-a-in-Triangle.ensures in
          let same = w.is_degenerate.ensures ∙ degenerate_corners w_of t.a t.b t.c _ h.1 in
          rw (w.self-is, w.item-is, w.sound-is, t.is)
          (hands_over clean_work _ _ 0 0 _ _ _ (h.0 t.place) refl (listed_if _ _ ∙ (λ i. only_if (not (same i)) (Triangle t.place t.a t.b t.c))))
      | in-Finalization+in_ok-finalization-in-Finalization w ↦
          rw (w.self-is, w.item-is, w.sound-is, w.in-Finalization.is)
          (hands_over clean_work _ _ 0 0 _ _ _ (w.in_ok-finalization-in-Finalization.ensures.0 w.in-Finalization.place) refl refl)
    ])
