-- What a border list keeps of the events that it accepted, and the machine that judges and finds border edges by that alone.
use Rattle.std.specs.Prelude.{ℕ, List, [], None, Option, nat_le}
use Rattle.std.specs.Option.{option_or}
use Rattle.mesh_stream.specs.declared.event.Event.{Event}
use Rattle.mesh_stream.specs.declared.event.Event.TheVariants.{Vertex, Triangle, Finalization}
use Rattle.mesh_stream.specs.declared.fault.Cause.{Cause}
use Rattle.mesh_stream.specs.declared.fault.Cause.TheVariants.{TooManyOpenEdges}
use Rattle.mesh_stream.specs.declared.fault.LayerName.TheVariants.{Border}
use Rattle.mesh_judge.specs.Accepting.{unless}
use Rattle.mesh_judge.specs.Windows.{Window, fresh, refuses, enters, counted, leaves}
use Rattle.mesh_layer.specs.Machine.{Machine, Patient}
use Rattle.mesh_layer.specs.JudgingMachine.{judging, judging_patient}
use Rattle.mesh_edges.specs.declared.edge.Edge.{Edge}
use Rattle.mesh_edges.specs.Bordering.{uses_of}
use Rattle.mesh_edge_windows.specs.Edges.{Edges, no_edges, use_all, open_at, singles, close_at}

-- The window of its judge, and the open edges.
pub record Memory : Type 0 where
  pub window : Window (Unit {0})
  pub edges : Edges

-- before the first event
abbrev pub blank : Memory
blank = record { window = fresh; edges = no_edges }

-- Why the open edges refuse an event.
abbrev pub edges_refuse : ℕ → Edges → Event → Option Cause
edges_refuse most t (Vertex p n v) = None
edges_refuse most t (Triangle p a b c) = unless (nat_le (use_all t (uses_of p a b c)).count most) TooManyOpenEdges None
edges_refuse most t (Finalization p i) = None

-- Why an event is refused: the acceptance rules come first.
abbrev pub memory_refuses : ℕ → ℕ → Memory → Event → Option Cause
memory_refuses limit most m e = option_or (refuses limit m.window e) (edges_refuse most m.edges e)

-- The memory after an accepted event.
abbrev pub moves_on : Memory → Event → Memory
moves_on m (Vertex p n v) = record { window = enters m.window n (record { place = p; at = v; note = tt }); edges = m.edges }
moves_on m (Triangle p a b c) = record { window = counted m.window; edges = use_all m.edges (uses_of p a b c) }
moves_on m (Finalization p i) = record { window = leaves m.window i; edges = close_at m.edges i }

-- What is handed over for an accepted event, by the memory before it.
abbrev pub hands : Memory → Event → List Edge
hands m (Vertex p n v) = []
hands m (Triangle p a b c) = []
hands m (Finalization p i) = singles (open_at m.edges i)

-- The machine of the border list, with at most `limit` live vertices and `most` open edges.
abbrev pub bordering : ℕ → ℕ → Machine Memory Event Edge
bordering limit most = judging Border (λ m. m.window) (memory_refuses limit most) moves_on hands

pub bordering_patient : (limit most : ℕ) → Patient (bordering limit most)
bordering_patient limit most = judging_patient Border (λ m. m.window) (memory_refuses limit most) moves_on hands
