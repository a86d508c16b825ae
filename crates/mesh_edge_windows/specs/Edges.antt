-- The open edges of a border list, found by their ends.
use Rattle.std.specs.Prelude.{ℕ, ◌+◌, ◌-◌, ◌^◌, Bool, cond, ◌&&◌, ◌||◌, List, [], ◌∷◌, length, flat_map, is_some, Some, None, Option, ◌==◌}
use Rattle.std.specs.List.{range_with_len}
use Rattle.std.specs.Option.{option_to_list}
use Rattle.mesh_edges.specs.declared.edge.Edge.{Edge}
use Rattle.mesh_edge_windows.specs.declared.open_edge.OpenEdge.{OpenEdge}
use Rattle.mesh_edge_windows.specs.Uses.{used_by, single}

-- What is kept of the edge between two vertices, whichever is named first; and how many edges are open.
pub record Edges : Type 0 where
  pub between : ℕ → ℕ → Option OpenEdge
  pub count : ℕ

-- before the first event
abbrev pub no_edges : Edges
no_edges = record { between = λ a b. None; count = 0 }

abbrev pub joins : ℕ → ℕ → Edge → Bool
joins a b e = a == e.from && b == e.to || a == e.to && b == e.from

-- 1 for an edge that is not open
abbrev pub newly : Edges → ℕ → ℕ → ℕ
newly t a b = cond (is_some (t.between a b)) 0 1

-- An edge is used.
abbrev pub use_edge : Edges → Edge → Edges
use_edge t e = record {
  between = λ a b. cond (joins a b e) (Some (used_by (t.between a b) e)) (t.between a b);
  count = t.count + newly t e.from e.to;
}

abbrev pub use_all : Edges → List Edge → Edges
use_all t [] = t
use_all t (e ∷ es) = use_all (use_edge t e) es

-- Above every vertex number. (Nothing is computed with it: what follows ranges over all numbers below.)
unfoldable pub number_bound : ℕ
number_bound = 2 ^ 32

-- The open edges at vertex i, by rising number of the other end.
abbrev pub open_at : Edges → ℕ → List OpenEdge
open_at t i = flat_map (λ j. option_to_list (t.between i j)) (range_with_len 0 number_bound)

-- Those of them that are single.
abbrev pub singles : List OpenEdge → List Edge
singles = flat_map (λ o. option_to_list (single o))

-- All open edges at i are closed.
abbrev pub close_at : Edges → ℕ → Edges
close_at t i = record {
  between = λ a b. cond (a == i || b == i) None (t.between a b);
  count = t.count - length (open_at t i);
}
