-- The machine of each layer gives what the layer's rule makes of the whole list.
use Rattle.std.specs.Prelude.{◌≡◌, ℕ}
use Rattle.mesh_stream.specs.declared.event.Event.{Event}
use Rattle.mesh_stream.specs.Meaning.{Outcome}
use Rattle.mesh_layer.specs.Machine.{run}
use Rattle.mesh_rules.specs.Piling.{Rule, through}
use Rattle.mesh_windows.specs.Windowing.{blank}
use Rattle.mesh_windows.specs.Working.{windowed}

abbrev pub WholeMesh : Type 0
WholeMesh = (limit : ℕ) (r : Rule) (o : Outcome Event) → run (windowed limit r) blank o.items o.stands ≡ through limit r o
