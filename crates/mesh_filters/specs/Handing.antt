-- What a filter that judges means, and what it makes of one event.
use Rattle.std.specs.Prelude.{◌≡◌, ℕ, List, [], ◌∷◌, Some, None, Option, Ok, Err, Result}
use Rattle.mesh_stream.specs.declared.event.Event.{Event}
use Rattle.mesh_stream.specs.declared.fault.Cause.{Cause}
use Rattle.mesh_stream.specs.declared.fault.LayerName.{LayerName}
use Rattle.mesh_stream.specs.Meaning.{Outcome}
use Rattle.mesh_judge.specs.declared.judge.Judge.{Judge}
use Rattle.mesh_judge.specs.Windows.{refuses}
use Rattle.mesh_judge.specs.Judging.{window_of, live_limit}
use Rattle.mesh_layer.specs.Filtering.{Filtering}
use Rattle.mesh_layer.specs.Machine.{runs_on}
use Rattle.mesh_layer.specs.MachineLaw.{machine_filters}
use Rattle.mesh_windows.specs.Windowing.{Memory, remembers, Work, moves_on, machine, machine_patient}

abbrev pub events_of : Option Event → List Event
events_of None = []
events_of (Some e) = e ∷ []

-- the memory of a filter, by its judge and by how many new numbers it gave
abbrev pub memory_by : {T : Type 0} → Judge T → ℕ → Memory T
memory_by j given = remembers (window_of j) given

-- What it makes of all that may still come from below, with the events in front that it still has to hand over.
abbrev pub means : {T : Type 0} → LayerName → Work T → Judge T → ℕ → List Event → Outcome Event → Outcome Event
means layer work j given owed = runs_on (machine (live_limit j) layer work) owed (memory_by j given)

pub means_filters : {T : Type 0} (layer : LayerName) (work : Work T) (j : Judge T) (given : ℕ) (owed : List Event)
    → Filtering (means layer work j given owed)
means_filters layer work j given owed =
    machine_filters (machine (live_limit j) layer work) (machine_patient (live_limit j) layer work) owed (memory_by j given)

-- A filter works one event in: j is its judge before and k after, and it gave so many new numbers.
module _ {T : Type 0} (work : Work T) (j : Judge T) (given : ℕ) (e : Event) where
  -- The event is accepted, and these are to be handed over for it.
  pub record HandsOver (out : List Event) (k : Judge T) (now : ℕ) : Type 0 where
    pub accepted : refuses (live_limit j) (window_of j) e ≡ None
    pub limit : live_limit k ≡ live_limit j
    pub memory : memory_by k now ≡ moves_on work (memory_by j given) e
    pub handed : out ≡ work.hands (memory_by j given) e

  -- The event is refused for this cause, and what the filter keeps is as it was.
  pub record Refuses (c : Cause) (k : Judge T) (now : ℕ) : Type 0 where
    pub refused : refuses (live_limit j) (window_of j) e ≡ Some c
    pub limit : live_limit k ≡ live_limit j
    pub memory : memory_by k now ≡ memory_by j given

-- The event is accepted, and what the rest lists is to be handed over for it; or it is refused for this cause.
abbrev pub Handed : {T H : Type 0} → (H → List Event) → Work T → Judge T → ℕ → Event → Result H Cause
    → Judge T → ℕ → Type 0
Handed listed work j given e (Ok rest) k now = HandsOver work j given e (listed rest) k now
Handed listed work j given e (Err c) k now = Refuses work j given e c k now
