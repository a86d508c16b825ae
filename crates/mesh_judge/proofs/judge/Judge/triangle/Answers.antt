use Rattle.std.proofs.Common.{Some, sym, refl, ap, ◌∙◌}
use Rattle.std.proofs.lemmas.Result.{err_from_is_err_and}
use Rattle.mesh_stream.specs.declared.event.Event.TheVariants.{Triangle}
use Rattle.mesh_stream.specs.declared.fault.Cause.{Cause}
use Rattle.mesh_judge.specs.Judging.{window_of, live_limit}
use Rattle.mesh_judge.proofs.Judging.{rejects, accepts_triangle, refuses_corner, refuses_many, refuses_no_triangle, cornered}
use Rattle.mesh_judge.proofs.judge.Judge.triangle.Goals as goal

pub returns-in_err-corners : goal.returns-in_err-corners
returns-in_err-corners g c =
    let j = c.args.self.now in
    let p = err_from_is_err_and c.from_residual.result c.from_residual.ensures.1 in
    let e = c.in_err-corners.ensures in
    rw p.1 (λ q. rejects j j refl (Triangle q c.args.a c.args.b c.args.c) p.0 (refuses_corner (live_limit j) (window_of j) q c.args.a c.args.b c.args.c e.0 ∙ ap (λ (x : Cause). Some x) (sym (p.2 ∙ e.1))) refl)

pub returns-in_err-count_triangle : goal.returns-in_err-count_triangle
returns-in_err-count_triangle g c =
    let j = c.args.self.now in
    let p = err_from_is_err_and c.from_residual-in_err-count_triangle.result c.from_residual-in_err-count_triangle.ensures.1 in
    let e = c.in_err-count_triangle.ensures in
    rw p.1 (λ q. rejects j c.count_triangle.new.self e.1 (Triangle q c.args.a c.args.b c.args.c) p.0
    (refuses_many (live_limit j) (window_of j) q c.args.a c.args.b c.args.c c.in_ok-corners.corners c.in_ok-corners.ensures e.0.0 ∙ ap (λ (x : Cause). Some x) (sym (p.2 ∙ e.0.1))) e.0.2)

pub returns : goal.returns
returns g c =
    let j = c.args.self.now in
    let f = c.in_ok-corners.ensures in
    let e = c.in_ok-count_triangle.ensures in (
      (λ q. accepts_triangle j c.count_triangle.new.self e.1 q c.args.a c.args.b c.args.c
          (refuses_no_triangle (live_limit j) (window_of j) q c.args.a c.args.b c.args.c c.in_ok-corners.corners f e.0.0) e.0.1),
      cornered j c.args.a c.args.b c.args.c c.in_ok-corners.corners f,
    )
