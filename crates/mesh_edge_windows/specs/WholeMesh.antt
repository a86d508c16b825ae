-- The machine of the border list gives the border list of the whole mesh.
use Rattle.std.specs.Prelude.{◌≡◌, ℕ}
use Rattle.mesh_stream.specs.declared.event.Event.{Event}
use Rattle.mesh_stream.specs.Meaning.{Outcome}
use Rattle.mesh_layer.specs.Machine.{run}
use Rattle.mesh_edges.specs.Bordering.{bordered}
use Rattle.mesh_edge_windows.specs.Windowing.{blank, bordering}

abbrev pub WholeMesh : Type 0
WholeMesh = (limit most : ℕ) (o : Outcome Event) → run (bordering limit most) blank o.items o.stands ≡ bordered limit most o
