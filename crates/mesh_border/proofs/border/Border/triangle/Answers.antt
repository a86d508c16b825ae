use Rattle.std.proofs.Common.{true, false, refl, ◌∙◌}
use Rattle.mesh_stream.specs.declared.event.Event.TheVariants.{Triangle}
use Rattle.mesh_judge.specs.Judging.{window_of, live_limit}
use Rattle.mesh_border.specs.OpenEdges.{edges_of}
use Rattle.mesh_border.specs.Keeping.{plain}
use Rattle.mesh_border.proofs.Keeping.{kept_by, kept_counted}
use Rattle.mesh_border.proofs.Making.{judge_passes, edges_say, judge_refused, not_worked}
use Rattle.mesh_border.proofs.border.Border.triangle.Goals as goal

pub returns-in_err-check_triangle : goal.returns-in_err-check_triangle
returns-in_err-check_triangle c =
    let old = c.args.self.now in
    let e = Triangle c.args.place c.args.a c.args.b c.args.c in
    not_worked old old e _ _ c.from_residual.ensures.1
    (judge_refused old old e _ (c.in_err-check_triangle.ensures.by_window c.args.place) refl refl refl refl)

pub returns-then-not-has_room : goal.returns-then-not-has_room
returns-then-not-has_room c =
    let old = c.args.self.now in
    let e = Triangle c.args.place c.args.a c.args.b c.args.c in
    record {
      refused = judge_passes old e (c.in_ok-check_triangle.ensures.by_window c.args.place)
          ∙ edges_say old c.args.place c.args.a c.args.b c.args.c false (c.if-not-has_room.ensures c.args.place);
      limits = record { live = refl; edges = refl };
      memory = refl;
      found = refl;
    }

pub invariant_of-self : goal.invariant_of-self
invariant_of-self c =
    let old = c.args.self.now in
    let r = c.in_err-corners.ensures c.args.place in
    record { kept = rw (r.limit, r.window) old.kept; long = old.long }

pub returns-in_err-corners : goal.returns-in_err-corners
returns-in_err-corners c =
    let old = c.args.self.now in
    let e = Triangle c.args.place c.args.a c.args.b c.args.c in
    let r = c.in_err-corners.ensures c.args.place in
    not_worked old _ e _ _ c.from_residual-in_err-corners.ensures.1 (judge_refused old _ e _ r.by_window r.limit r.window refl refl)

pub join-requires : goal.join-requires
join-requires c =
    let kept = c.args.self.now.kept in
    let s = c.in_ok-corners.ensures.1 in
    ((kept.rows _ _ s.first.0).0, (kept.rows _ _ s.second.0).0)

pub join-requires-2 : goal.join-requires-2
join-requires-2 c =
    let kept = c.args.self.now.kept in
    let s = c.in_ok-corners.ensures.1 in
    ((kept.rows _ _ s.second.0).0, (kept.rows _ _ s.third.0).0)

pub join-requires-3 : goal.join-requires-3
join-requires-3 c =
    let kept = c.args.self.now.kept in
    let s = c.in_ok-corners.ensures.1 in
    ((kept.rows _ _ s.third.0).0, (kept.rows _ _ s.first.0).0)

pub invariant_of-self-2 : goal.invariant_of-self-2
invariant_of-self-2 c =
    let old = c.args.self.now in
    let k = c.triangle.new.self in
    let a = c.in_ok-corners.ensures.0 c.args.place in
    let s = c.in_ok-corners.ensures.1 in
    record {
      kept = kept_by (live_limit k) _ _ _ _ _
          (kept_counted (live_limit old.judge) (window_of old.judge) (edges_of old.edges) old.neighbours c.join.new.self
          c.join-2.new.self c.join-3.new.self old.kept c.args.place c.args.a c.args.b c.args.c _ _ _ s.first.0 s.second.0 s.third.0
          c.join.ensures c.join-2.ensures c.join-3.ensures (live_limit k) a.limit)
          a.window c.use_triangle.ensures.used;
      long = old.long;
    }

pub returns : goal.returns
returns c =
    let old = c.args.self.now in
    let e = Triangle c.args.place c.args.a c.args.b c.args.c in
    let a = c.in_ok-corners.ensures.0 c.args.place in
    record {
      accepted = judge_passes old e a.by_window
          ∙ edges_say old c.args.place c.args.a c.args.b c.args.c true (c.if-not-has_room.ensures c.args.place);
      limits = record { live = a.limit; edges = c.use_triangle.ensures.most };
      memory = λ i. record { window = plain (a.window i); edges = c.use_triangle.ensures.used i };
      handed = refl;
    }
