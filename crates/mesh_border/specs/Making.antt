-- What the filter of the border list makes of all that may still come from below, and how it works one event in.
use Rattle.std.specs.Prelude.{◌≡◌, List, [], Some, None, Ok, Err, Result}
use Rattle.mesh_stream.specs.declared.event.Event.{Event}
use Rattle.mesh_stream.specs.declared.fault.Cause.{Cause}
use Rattle.mesh_stream.specs.Meaning.{Outcome}
use Rattle.mesh_judge.specs.Judging.{window_of, live_limit}
use Rattle.mesh_layer.specs.Filtering.{Filtering}
use Rattle.mesh_layer.specs.Machine.{runs_on}
use Rattle.mesh_layer.specs.MachineLaw.{machine_filters}
use Rattle.mesh_edges.specs.declared.edge.Edge.{Edge}
use Rattle.mesh_edge_windows.specs.Windowing.{Memory, memory_refuses, moves_on, hands, bordering, bordering_patient}
use Rattle.mesh_border.specs.declared.border.Border.{Border}
use Rattle.mesh_border.specs.declared.border.Rest.{Rest}
use Rattle.mesh_border.specs.declared.border.Rest.TheVariants.{Nothing, Found}
use Rattle.mesh_border.specs.OpenEdges.{edges_of, most_of}
use Rattle.mesh_border.specs.Keeping.{plain}

abbrev pub memory_of : Border → Memory
memory_of b = record { window = plain (window_of b.judge); edges = edges_of b.edges }

-- what is still to be handed over
abbrev pub owed : Border → Rest → List Edge
owed b Nothing = []
owed b Found = b.found

abbrev pub makes : Border → Rest → Outcome Event → Outcome Edge
makes b rest = runs_on (bordering (live_limit b.judge) (most_of b.edges)) (owed b rest) (memory_of b)

pub makes_filters : (b : Border) (rest : Rest) → Filtering (makes b rest)
makes_filters b rest =
    machine_filters (bordering (live_limit b.judge) (most_of b.edges)) (bordering_patient (live_limit b.judge) (most_of b.edges))
    (owed b rest) (memory_of b)

pub record SameLimits (old new : Border) : Type 0 where
  pub live : live_limit new.judge ≡ live_limit old.judge
  pub edges : most_of new.edges ≡ most_of old.edges

-- The event is accepted, and this is to be handed over for it.
pub record Accepts (old : Border) (e : Event) (rest : Rest) (new : Border) : Type 0 where
  pub accepted : memory_refuses (live_limit old.judge) (most_of old.edges) (memory_of old) e ≡ None
  pub limits : SameLimits old new
  pub memory : memory_of new ≡ moves_on (memory_of old) e
  pub handed : owed new rest ≡ hands (memory_of old) e

-- The event is refused for this cause, and all is as it was.
pub record Refuses (old : Border) (e : Event) (c : Cause) (new : Border) : Type 0 where
  pub refused : memory_refuses (live_limit old.judge) (most_of old.edges) (memory_of old) e ≡ Some c
  pub limits : SameLimits old new
  pub memory : memory_of new ≡ memory_of old
  pub found : new.found ≡ old.found

abbrev pub Worked : Border → Event → Result Rest Cause → Border → Type 0
Worked old e (Ok rest) new = Accepts old e rest new
Worked old e (Err c) new = Refuses old e c new
