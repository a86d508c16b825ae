-- How an open edge was used so far, and what it gives.
use Rattle.std.specs.Prelude.{Some, None, Option}
use Rattle.mesh_edges.specs.declared.edge.Edge.{Edge}
use Rattle.mesh_edge_windows.specs.declared.open_edge.OpenEdge.{OpenEdge}
use Rattle.mesh_edge_windows.specs.declared.open_edge.Uses.{Uses}
use Rattle.mesh_edge_windows.specs.declared.open_edge.Uses.TheVariants.{Once, More}

abbrev pub first_used : Edge → OpenEdge
first_used e = record { first = e; uses = Once }

abbrev pub used_again : OpenEdge → OpenEdge
used_again o = record { first = o.first; uses = More }

-- what is kept of an edge after one use more
abbrev pub used_by : Option OpenEdge → Edge → OpenEdge
used_by None e = first_used e
used_by (Some o) e = used_again o

abbrev pub single_if : Uses → Edge → Option Edge
single_if Once e = Some e
single_if More e = None

-- Its only use, if there was just one.
abbrev pub single : OpenEdge → Option Edge
single o = single_if o.uses o.first
