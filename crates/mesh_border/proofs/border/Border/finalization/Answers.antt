use Rattle.std.proofs.Common.{ℕ, ◌+◌, ◌-◌, sym, refl, ap, ◌∙◌}
use Rattle.std.proofs.lemmas.List.Sorted.{IsNonDecreasingBy-from_sort}
use borrow.Rule.Slice.PartMut.{same_len_mid}
use Rattle.mesh_stream.specs.declared.event.Event.TheVariants.{Finalization}
use Rattle.mesh_judge.specs.Judging.{window_of, live_limit}
use Rattle.mesh_border.specs.OpenEdges.{edges_of}
use Rattle.mesh_border.specs.Keeping.{plain}
use Rattle.mesh_border.proofs.Plain.{plain_leaves}
use Rattle.mesh_border.proofs.Keeping.{kept_by, ends_among, kept_left}
use Rattle.mesh_border.proofs.Making.{judge_passes, judge_refused, not_worked}
use Rattle.mesh_border.proofs.border.Border.finalization.Goals as goal

pub invariant_of-self : goal.invariant_of-self
invariant_of-self c =
    let old = c.args.self.now in
    let r = c.in_err-row.ensures 0 in
    record { kept = rw (r.limit, r.window) old.kept; long = old.long }

pub returns-in_err-row : goal.returns-in_err-row
returns-in_err-row c = λ place.
    (let old = c.args.self.now in
    let e = Finalization place c.args.vertex in
    let r = c.in_err-row.ensures place in
    not_worked old _ e _ _ c.from_residual.ensures.1 (judge_refused old _ e _ r.by_window r.limit r.window refl refl))

pub list-count-requires-clause-row : goal.list-count-requires-clause-row
list-count-requires-clause-row c = (c.args.self.now.kept.rows _ _ c.in_ok-row.ensures.1).0

pub close_at-requires-clause-rising : goal.close_at-requires-clause-rising
close_at-requires-clause-rising c = IsNonDecreasingBy-from_sort (λ (n : ℕ). n) c.sort_unstable.new.self c.sort_unstable.ensures.sorted

pub close_at-requires-clause-among : goal.close_at-requires-clause-among
close_at-requires-clause-among c =
    let old = c.args.self.now in
    ends_among (live_limit old.judge) (window_of old.judge) (edges_of old.edges) old.neighbours old.kept c.args.vertex _
    c.in_ok-row.ensures.1 c.list-count.new.into c.list-count.result c.sort_unstable.new.self c.list-count.ensures.listed
    c.sort_unstable.ensures.permutation

pub invariant_of-self-2 : goal.invariant_of-self-2
invariant_of-self-2 c =
    let old = c.args.self.now in
    let k = c.finalization.new.self in
    let a = c.in_ok-row.ensures.0 0 in
    record {
      kept = kept_by (live_limit k) _ _ _ _ _
          (kept_left (live_limit old.judge) (window_of old.judge) (edges_of old.edges) old.neighbours old.kept c.args.vertex _
          c.in_ok-row.ensures.1 c.leave.new.self c.leave.ensures (live_limit k) a.limit
          (ap (λ w. w.live_count + 1) (sym a.window) ∙ c.in_ok-row.ensures.2))
          a.window c.close_at.ensures.closed;
      long = same_len_mid 0 (c.list-count.result - 0) c.list-count.new.into c.sort_unstable.new.self c.sort_unstable.ensures.len
          ∙ c.list-count.ensures.long;
    }

pub returns : goal.returns
returns c = λ place.
    (let old = c.args.self.now in
    let e = Finalization place c.args.vertex in
    let a = c.in_ok-row.ensures.0 place in
    record {
      accepted = judge_passes old e a.by_window;
      limits = record { live = a.limit; edges = c.close_at.ensures.most };
      memory = λ i. record {
        window = (ap (plain {T = ℕ}) a.window ∙ plain_leaves (window_of old.judge) c.args.vertex) i;
        edges = c.close_at.ensures.closed i;
      };
      handed = c.close_at.ensures.found;
    })
