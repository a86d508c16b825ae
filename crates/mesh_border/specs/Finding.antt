-- The edges that were found, as a list.
use Rattle.std.specs.Prelude.{◌≡◌, List, [], ◌∷◌, Some, None, Option}
use Rattle.mesh_edges.specs.declared.edge.Edge.{Edge}

-- The first edge is taken out, if there is one.
abbrev pub Popped : List Edge → Option Edge → List Edge → Type 0
Popped old (Some e) new = old ≡ e ∷ new
Popped old None new = (old ≡ []) × (new ≡ [])
