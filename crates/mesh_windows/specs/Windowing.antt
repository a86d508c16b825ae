-- What a layer keeps of the events that it accepted, and the machine that judges and rewrites by that alone.
use Rattle.std.specs.Prelude.{ℕ, List}
use Rattle.mesh_stream.specs.declared.event.Point.{Point}
use Rattle.mesh_stream.specs.declared.event.Event.{Event}
use Rattle.mesh_stream.specs.declared.event.Event.TheVariants.{Vertex, Triangle, Finalization}
use Rattle.mesh_stream.specs.declared.fault.LayerName.{LayerName}
use Rattle.mesh_judge.specs.Windows.{Window, fresh, refuses, enters, counted, leaves}
use Rattle.mesh_layer.specs.Machine.{Machine, Patient}
use Rattle.mesh_layer.specs.JudgingMachine.{judging, judging_patient}

-- The window of the layer's judge, and how many new numbers the layer gave.
pub record Memory (T : Type 0) : Type 0 where
  pub window : Window T
  pub given : ℕ

abbrev pub remembers : {T : Type 0} → Window T → ℕ → Memory T
remembers w k = record { window = w; given = k }

-- before the first event
abbrev pub blank : {T : Type 0} → Memory T
blank = remembers fresh 0

-- What one layer does beside judging.
pub record Work (T : Type 0) : Type 0 where
  -- what it notes of a new vertex, by how many numbers were given and where the vertex stands, and how many are given after it
  pub notes : ℕ → Point → T
  pub gives : ℕ → ℕ
  -- a triangle's corners marked: only their notes, and how many numbers were given, may differ
  pub marks : Memory T → ℕ → ℕ → ℕ → Memory T
  -- what it hands over for an accepted event, by its memory before it
  pub hands : Memory T → Event → List Event

-- The memory after an accepted event.
abbrev pub moves_on : {T : Type 0} → Work T → Memory T → Event → Memory T
moves_on work m (Vertex p n v) =
    remembers (enters m.window n (record { place = p; at = v; note = work.notes m.given v })) (work.gives m.given)
moves_on work m (Triangle p a b c) = work.marks (remembers (counted m.window) m.given) a b c
moves_on work m (Finalization p i) = remembers (leaves m.window i) m.given

-- The machine of a layer, under its name: it judges by its window, and stands as its judge does.
abbrev pub machine : {T : Type 0} → ℕ → LayerName → Work T → Machine (Memory T) Event Event
machine limit layer work = judging layer (λ m. m.window) (λ m. refuses limit m.window) (moves_on work) work.hands

pub machine_patient : {T : Type 0} (limit : ℕ) (layer : LayerName) (work : Work T) → Patient (machine limit layer work)
machine_patient limit layer work = judging_patient layer (λ m. m.window) (λ m. refuses limit m.window) (moves_on work) work.hands
