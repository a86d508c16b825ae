use Rattle.std.proofs.Common.{◌≡◌, ℕ, ◌++◌, sym, length, None, Some, refl, ap, ◌∙◌, arith, length-append}
use Rattle.std.specs.Iterator.Adapters.{rev_source}
use Rattle.std.specs.Slice.Iter.{iter_rest}
use Rattle.std.specs.Option.{option_to_list}
use Rattle.mesh_edge_windows.specs.Edges.{singles}
use Rattle.mesh_border.specs.OpenEdges.{edges_of}
use Rattle.mesh_border.proofs.Edging.{edges_either}
use Rattle.mesh_border.proofs.Closing.{none_closed_yet, one_closed, none_gives, open_gives, all_closed}
use Rattle.mesh_border.proofs.open_edges.OpenEdges.close_at.Goals.{in_default-via-in-None-1, in_default-via-in-Some-close+in-None-1}
use Rattle.mesh_border.proofs.open_edges.OpenEdges.close_at.Goals as goal

pub loop-end-init : goal.loop-end-init
loop-end-init c =
    let all : iter_rest (rev_source c.into_iter-end-iterator.result) ≡ c.args.ends.now = cc in
    record {
      can_next = tt;
      is_finite = tt;
      halfway = none_closed_yet (edges_of c.args.self.now) c.args.vertex c.args.ends.now _ c.args.found.now all
          c.requires.none c.requires.among c.requires.rising (λ k. omega (arith, c.type_inv.ends k));
      few = omega (arith, ap length all, ap length c.requires.none);
      most = refl;
    }

-- no edge, or one that was used more than once
pub loop-end-preserved : goal.loop-end-preserved
loop-end-preserved c =
    let none : singles (option_to_list c.close.result) ++ c.loop-end.found ≡ c.loop-end.found =
    elim c.in_default.branch [
      | in_default-via-in-None-1 w ↦ none_gives c.close.result c.loop-end.found (cc)
      | in_default-via-in-Some-close+in-None-1 w ↦
          open_gives c.close.result w.in-Some-close.open w.single.result None c.loop-end.found w.in-Some-close.is
          w.single.ensures (cc)
    ] in
    record {
      can_next = tt;
      is_finite = tt;
      halfway = one_closed (edges_of c.args.self.now) (edges_of c.loop-end.self) (edges_of c.close.new.self) c.args.vertex
          c.in-Some.end.now _ _ c.close.result c.loop-end.found _ c.loop-end.invariant.halfway c.in-Some.ensures.steps
          c.close.ensures.was c.close.ensures.edges none;
      few = omega (arith, c.loop-end.invariant.few, ap length c.in-Some.ensures.steps, length-append {A = ℕ});
      most = c.close.ensures.most ∙ c.loop-end.invariant.most;
    }

-- a single edge
pub loop-end-preserved-in-loop-end : goal.loop-end-preserved-in-loop-end
loop-end-preserved-in-loop-end c =
    let one = open_gives c.close.result c.in-Some-close.open c.single.result (Some c.in-Some-single.edge) c.loop-end.found
    c.in-Some-close.is c.single.ensures c.in-Some-single.is in
    record {
      can_next = tt;
      is_finite = tt;
      halfway = one_closed (edges_of c.args.self.now) (edges_of c.loop-end.self) (edges_of c.close.new.self) c.args.vertex
          c.in-Some.end.now _ _ c.close.result c.loop-end.found _ c.loop-end.invariant.halfway c.in-Some.ensures.steps
          c.close.ensures.was c.close.ensures.edges (one ∙ sym c.push.ensures);
      few = omega (arith, c.loop-end.invariant.few, ap length c.in-Some.ensures.steps, length-append {A = ℕ}, ap length c.push.ensures);
      most = c.close.ensures.most ∙ c.loop-end.invariant.most;
    }

pub returns : goal.returns
returns c =
    let r = all_closed (edges_of c.args.self.now) (edges_of c.loop-end.self) c.args.vertex _ c.loop-end.found
    (edges_either c.loop-end.self) c.in-None.ensures.steps.0 c.loop-end.invariant.halfway in
    record { found = r.0; closed = r.1; most = c.loop-end.invariant.most }
