use Rattle.std.proofs.Common.{Bool, false, ◌&&◌, sym, refl, ◌∙◌}
use Rattle.mesh_stream.specs.declared.event.Event.TheVariants.{Vertex, Triangle, Finalization}
use Rattle.mesh_judge.specs.Windows.{Window, enters}
use Rattle.mesh_judge.specs.Judging.{window_of}
use Rattle.mesh_windows.specs.Windowing.{remembers}
use Rattle.mesh_windows.specs.Working.{only_if, note_of, clip_work}
use Rattle.mesh_filters.specs.Handing.{events_of}
use Rattle.mesh_filters.proofs.Handing.{hands_over, not_handed}
use Rattle.mesh_filters.proofs.Kept.{listed_if, by_notes}
use Rattle.mesh_filters.proofs.clip.Clip.judged.Goals as goal
use Rattle.mesh_filters.proofs.clip.Clip.judged.Goals.{in-Vertex+in_ok-vertex-in-Vertex, in-Triangle+in_ok-triangle-in-Triangle, in-Finalization+in_ok-kept-in-Finalization}

pub returns-in_err-triangle-in-Triangle-clause-handed : goal.returns-in_err-triangle-in-Triangle-clause-handed
returns-in_err-triangle-in-Triangle-clause-handed g c =
    let work = clip_work (g.R.Region.inside c.args.self.now.region) in
    let no = c.in_err-triangle-in-Triangle.ensures c.in-Triangle.place in
    rw c.in-Triangle.is (not_handed work _ _ 0 _ events_of _ _ no c.from_residual-in_err-triangle-in-Triangle.ensures.1)

pub returns-in_err-kept-in-Finalization-clause-handed : goal.returns-in_err-kept-in-Finalization-clause-handed
returns-in_err-kept-in-Finalization-clause-handed g c =
    let work = clip_work (g.R.Region.inside c.args.self.now.region) in
    let no = c.in_err-kept-in-Finalization.ensures c.in-Finalization.place in
    rw c.in-Finalization.is (not_handed work _ _ 0 _ events_of _ _ no c.from_residual-in_err-kept-in-Finalization.ensures.1)

pub returns-clause-handed : goal.returns-clause-handed
returns-clause-handed g c =
    let f = c.args.self.now in
    let work = clip_work (g.R.Region.inside f.region) in
    let w_of = window_of f.judge in
    rw c.then_some.ensures (elim c.match-item.branch [
      | in-Vertex+in_ok-vertex-in-Vertex w ↦
          let v = w.in-Vertex in
          let inside = w.contains-note.ensures in
          let entered : Bool → Window Bool = λ b. enters w_of v.number (record { place = v.place; at = v.at; note = b }) in
          rw (w.self-is, w.item-is, w.kept-is, v.is)
          (hands_over work _ _ 0 0 _ _ _ w.in_ok-vertex-in-Vertex.ensures (λ i. remembers (entered (inside i)) 0)
          (listed_if _ _ ∙ (λ i. only_if (inside i) (Vertex v.place v.number v.at))))
      | in-Triangle+in_ok-triangle-in-Triangle w ↦
          let t = w.in-Triangle in
          let h = w.in_ok-triangle-in-Triangle.ensures in
          let same = w.all_kept-kept.ensures ∙ by_notes w_of t.a t.b t.c _ h.1 false (λ x y z. x && y && z) in
          rw (w.self-is, w.item-is, w.kept-is, t.is)
          (hands_over work _ _ 0 0 _ _ _ (h.0 t.place) refl (listed_if _ _ ∙ (λ i. only_if (same i) (Triangle t.place t.a t.b t.c))))
      | in-Finalization+in_ok-kept-in-Finalization w ↦
          let t = w.in-Finalization in
          let h = w.in_ok-kept-in-Finalization.ensures in
          rw (w.self-is, w.item-is, w.kept-is, t.is)
          (hands_over work _ _ 0 0 _ _ _ (h.0 t.place) refl
          (listed_if _ _ ∙ (λ i. only_if (note_of false (sym h.1 i)) (Finalization t.place t.vertex))))
    ])
