-- How a border edge is shown.
use Rattle.std.specs.Prelude.{ℕ, List, ◌++◌, codes, decimal}
use Rattle.mesh_edges.specs.declared.edge.Edge.{Edge}

-- `e FROM TO @PLACE`
abbrev pub edge_text : Edge → List ℕ
edge_text e = codes "e " ++ (decimal e.from ++ (codes " " ++ (decimal e.to ++ (codes " @" ++ decimal e.place))))
