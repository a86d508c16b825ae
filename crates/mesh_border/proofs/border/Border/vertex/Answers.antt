use Rattle.std.proofs.Common.{ℕ, sym, refl, ap, ◌∙◌, subst}
use Rattle.mesh_stream.specs.declared.event.Event.TheVariants.{Vertex}
use Rattle.mesh_judge.specs.declared.live.Live.{Live}
use Rattle.mesh_judge.specs.Windows.{Window}
use Rattle.mesh_judge.specs.Judging.{window_of, live_limit}
use Rattle.mesh_border.specs.OpenEdges.{edges_of}
use Rattle.mesh_border.specs.Keeping.{plain, Kept}
use Rattle.mesh_border.proofs.Plain.{plain_enters}
use Rattle.mesh_border.proofs.Keeping.{kept_entered}
use Rattle.mesh_border.proofs.Making.{vertex_fits, judge_passes}
use Rattle.mesh_border.proofs.border.Border.vertex.Goals as goal

pub invariant_of-self-2 : goal.invariant_of-self-2
invariant_of-self-2 c =
    let old = c.args.self.now in
    let k = c.vertex.new.self in
    let x : Live ℕ = record { place = c.args.place; at = c.args.at; note = c.next_row-note.result } in
    let a = c.in_ok-vertex.ensures in
    let above = (vertex_fits (live_limit old.judge) (window_of old.judge) c.args.place c.args.number c.args.at a.by_window).0 in
    record {
      kept = subst (λ (w : Window ℕ). Kept (live_limit k) w (edges_of old.edges) c.enter.new.self) (sym a.window)
          (kept_entered (live_limit old.judge) (window_of old.judge) (edges_of old.edges) old.neighbours c.enter.new.self old.kept
          c.args.number x above c.next_row-note.ensures c.enter.ensures (live_limit k) a.limit);
      long = old.long;
    }

pub returns : goal.returns
returns c =
    let old = c.args.self.now in
    let x : Live ℕ = record { place = c.args.place; at = c.args.at; note = c.next_row-note.result } in
    let a = c.in_ok-vertex.ensures in
    record {
      accepted = judge_passes old (Vertex c.args.place c.args.number c.args.at) a.by_window;
      limits = record { live = a.limit; edges = refl };
      memory = λ i. record {
        window = (ap (plain {T = ℕ}) a.window ∙ plain_enters (window_of old.judge) c.args.number x) i;
        edges = edges_of old.edges;
      };
      handed = refl;
    }
