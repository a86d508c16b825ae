use Rattle.std.proofs.Common.{◌≡◌, length, ◌+◌, ◌≤◌}
use Rattle.std.specs.Iterator.Adapters.{rev_source}
use Rattle.std.specs.Slice.Iter.{iter_rest}
use Rattle.mesh_border.specs.OpenEdges.{edges_of, most_of}
use Rattle.mesh_border.proofs.Closing.{Halfway}
use Rattle.mesh_border.proofs.open_edges.OpenEdges.close_at.Given as goal

abbrev pub invariant-loop-end : goal.invariant-loop-end
invariant-loop-end l = record {
  can_next : (goal.iterator-loop-end).can_next l.end-iterator;
  is_finite : (goal.iterator-loop-end).is_finite l.end-iterator;
  halfway : Halfway (edges_of l.fn.self) (edges_of l.self) l.vertex (iter_rest (rev_source l.end-iterator)) l.found;
  few : length l.found + length (iter_rest (rev_source l.end-iterator)) ≤ 1024;
  most : most_of l.self ≡ most_of l.fn.self;
}
