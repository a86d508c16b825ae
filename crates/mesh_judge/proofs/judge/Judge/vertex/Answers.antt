use Rattle.std.proofs.Common.{Some, Ok, sym, refl, ap, ◌∙◌, subst}
use Rattle.std.proofs.lemmas.Result.{err_from_is_err_and}
use Rattle.mesh_stream.specs.declared.event.Event.TheVariants.{Vertex}
use Rattle.mesh_stream.specs.declared.fault.Cause.{Cause}
use Rattle.mesh_table.specs.declared.key.Key.{Key}
use Rattle.mesh_table.specs.Tables.{Sets, Inserted}
use Rattle.mesh_judge.specs.Judging.{window_of, live_limit}
use Rattle.mesh_judge.proofs.Judging.{rejects, fits_in, in_space_of, number_of, entered_stray, not_refused, entered}
use Rattle.mesh_judge.proofs.judge.Judge.vertex.Goals as goal

pub returns-in_err-check_vertex : goal.returns-in_err-check_vertex
returns-in_err-check_vertex g c =
    let j = c.args.self.now in
    let x = c.args.vertex in
    let p = err_from_is_err_and c.from_residual.result c.from_residual.ensures.1 in
    let e = c.in_err-check_vertex.ensures in
    rw p.1 (rejects j j refl (Vertex x.place c.args.number x.at) p.0 (e x.place ∙ ap (λ (q : Cause). Some q) (sym p.2)) refl)

pub unwrap-requires : goal.unwrap-requires
unwrap-requires g c =
    not_refused c.args.self.now c.insert.new.self c.args.number c.args.vertex c.vertex.result c.insert.result c.vertex.ensures.key (c.in_ok-check_vertex.ensures c.args.vertex.place) c.insert.ensures

inserted : (g : _) (c : goal.After-unwrap g) → Inserted c.args.self.now.live c.insert.new.self c.vertex.result c.args.vertex (Ok c.unwrap.result)
inserted g c = subst (Inserted c.args.self.now.live c.insert.new.self c.vertex.result c.args.vertex) c.unwrap.ensures c.insert.ensures

pub invariant_of-self : goal.invariant_of-self
invariant_of-self g c =
    let j = c.args.self.now in
    let x = c.args.vertex in
    let n = c.args.number in
    let f = fits_in (live_limit j) (window_of j) x.place n x.at (c.in_ok-check_vertex.ensures x.place) in
    record {
      sound = entered_stray j.live c.insert.new.self j.highest j.sound n x f.above (in_space_of n x.at f.in_range) (subst (λ (q : Key). Sets j.live c.insert.new.self q (Some x)) c.vertex.ensures.key (inserted g c).3);
      numbers = number_of n x.at f.in_range;
      few = j.few;
    }

pub returns : goal.returns
returns g c =
    let i = inserted g c.before in
    entered c.args.self.now _ c.args.number c.args.vertex c.vertex.result c.vertex.ensures.key i.2 i.3 refl refl (c.in_ok-check_vertex.ensures c.args.vertex.place)
