use Rattle.std.proofs.Common.{sym, subst}
use Rattle.std.proofs.lemmas.Result.{err_from_is_err_and}
use Rattle.mesh_stream.specs.declared.event.Event.{Event}
use Rattle.mesh_report.specs.declared.report.Report.{Report}
use Rattle.mesh_report.specs.Counting.{WidthNoted}
use Rattle.mesh_report.specs.Reporting.{TakesOne, TakesNone}
use Rattle.mesh_report.proofs.Tallies.{takes_none, takes_vertex, takes_triangle, takes_final}
use Rattle.mesh_report.proofs.report.Report.take.Goals as goal
use Rattle.mesh_report.proofs.report.Report.take.Goals.{in-Vertex+in_ok-take_vertex-in-Vertex, in-Triangle+in_ok-take_triangle-in-Triangle, in-Finalization+in_ok-take_finalization-in-Finalization}

pub returns-in_err-take_triangle-in-Triangle : goal.returns-in_err-take_triangle-in-Triangle
returns-in_err-take_triangle-in-Triangle c =
    let r = c.args.self.now in
    let s = c.take_triangle.new.self in
    let p = err_from_is_err_and c.from_residual-in_err-take_triangle-in-Triangle.result c.from_residual-in_err-take_triangle-in-Triangle.ensures.1 in
    let e = c.in_err-take_triangle-in-Triangle.ensures in
    rw (p.1, p.2) (subst (λ (x : Event). TakesNone r s x c.in_err-take_triangle-in-Triangle.field-0.0) (sym c.in-Triangle.is) (takes_none r s _ _ (e.0 c.in-Triangle.place) e.1 e.2))

pub returns-in_err-take_finalization-in-Finalization : goal.returns-in_err-take_finalization-in-Finalization
returns-in_err-take_finalization-in-Finalization c =
    let r = c.args.self.now in
    let s = c.take_finalization.new.self in
    let p = err_from_is_err_and c.from_residual-in_err-take_finalization-in-Finalization.result c.from_residual-in_err-take_finalization-in-Finalization.ensures.1 in
    let e = c.in_err-take_finalization-in-Finalization.ensures in
    rw (p.1, p.2) (subst (λ (x : Event). TakesNone r s x c.in_err-take_finalization-in-Finalization.field-0.0) (sym c.in-Finalization.is) (takes_none r s _ _ (e.0 c.in-Finalization.place) e.1 e.2))

pub returns : goal.returns
returns c =
    let r = c.args.self.now in
    let s = c.note_width.new.self in
    let n = c.note_width.ensures in
    elim c.match-event.branch [
      | in-Vertex+in_ok-take_vertex-in-Vertex w ↦
          subst (TakesOne r s) (sym w.in-Vertex.is)
          (takes_vertex r s w.take_vertex.new.self w.in-Vertex.place w.in-Vertex.number w.in-Vertex.at w.in_ok-take_vertex-in-Vertex.ensures (subst (λ (m : Report). WidthNoted m s) w.self-is n))
      | in-Triangle+in_ok-take_triangle-in-Triangle w ↦
          subst (TakesOne r s) (sym w.in-Triangle.is)
          (takes_triangle r s w.take_triangle.new.self w.in-Triangle.place w.in-Triangle.a w.in-Triangle.b w.in-Triangle.c w.in_ok-take_triangle-in-Triangle.ensures (subst (λ (m : Report). WidthNoted m s) w.self-is n))
      | in-Finalization+in_ok-take_finalization-in-Finalization w ↦
          subst (TakesOne r s) (sym w.in-Finalization.is)
          (takes_final r s w.take_finalization.new.self w.in-Finalization.place w.in-Finalization.vertex w.in_ok-take_finalization-in-Finalization.ensures (subst (λ (m : Report). WidthNoted m s) w.self-is n))
    ]
