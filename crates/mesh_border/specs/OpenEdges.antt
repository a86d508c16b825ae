-- The open edges, found by their keys.
use Rattle.std.specs.Prelude.{◌≡◌, ℕ, ◌-◌, Bool, true, cond, List, is_some, Some, None, Option, nat_le}
use Rattle.mesh_stream.specs.Lists.{has}
use Rattle.mesh_table.specs.Keys.{edge_key}
use Rattle.mesh_table.specs.Tables.{record_at, records, limit_of}
use Rattle.mesh_edges.specs.Bordering.{edge, uses_of}
use Rattle.mesh_edge_windows.specs.declared.open_edge.OpenEdge.{OpenEdge}
use Rattle.mesh_edge_windows.specs.Edges.{Edges, joins, use_all}
use Rattle.mesh_border.specs.declared.open_edges.OpenEdges.{OpenEdges}

abbrev pub edges_of : OpenEdges → Edges
edges_of o = record { between = λ a b. record_at o.table (edge_key a b); count = records o.table }

-- how many edges may be open
abbrev pub most_of : OpenEdges → ℕ
most_of o = limit_of o.table

-- whether a triangle leaves no more than that open
abbrev pub fits : OpenEdges → ℕ → ℕ → ℕ → ℕ → Bool
fits o p a b c = nat_le (use_all (edges_of o) (uses_of p a b c)).count (most_of o)

-- The edge between a and b is closed, if it is open.
abbrev pub without : Edges → ℕ → ℕ → Edges
without t a b = record {
  between = λ x y. cond (joins x y (edge 0 a b)) None (t.between x y);
  count = t.count - cond (is_some (t.between a b)) 1 0;
}

pub record TakenOut (old : OpenEdges) (a b : ℕ) (r : Option OpenEdge) (new : OpenEdges) : Type 0 where
  pub was : r ≡ (edges_of old).between a b
  pub edges : edges_of new ≡ without (edges_of old) a b
  pub most : most_of new ≡ most_of old

-- The other ends of all open edges at i are among these.
abbrev pub Among : Edges → ℕ → List ℕ → Type 0
Among t i ends = (j : ℕ) (o : OpenEdge) → t.between i j ≡ Some o → has j ends ≡ true
