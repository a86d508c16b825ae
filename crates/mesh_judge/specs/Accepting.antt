-- Which events are accepted, and how what judges them stands: by the whole list, with no window.
use Rattle.std.specs.Prelude.{◌≡◌, ℕ, min, Bool, true, false, ◌&&◌, List, [], ◌∷◌, ◌++◌, length, Some, None, Option, nat_lt}
use Rattle.mesh_stream.specs.declared.event.Event.{Event}
use Rattle.mesh_stream.specs.declared.event.Event.TheVariants.{Vertex, Triangle, Finalization}
use Rattle.mesh_stream.specs.declared.fault.Cause.{Cause}
use Rattle.mesh_stream.specs.declared.fault.Cause.TheVariants.{OutOfRange, NotRising, TooManyLive, CornerNotLive, NotLive, LeftLive, TooManyTriangles}
use Rattle.mesh_stream.specs.declared.fault.LayerName.{LayerName}
use Rattle.mesh_stream.specs.declared.stage.Standing.{Standing}
use Rattle.mesh_stream.specs.declared.stage.Standing.TheVariants.{Waiting, Ended, Faulty}
use Rattle.mesh_stream.specs.Lists.{above_all}
use Rattle.mesh_stream.specs.Events.{place_of, introduced, triangles, birthplace}
use Rattle.mesh_stream.specs.Live.{live, is_live}
use Rattle.mesh_stream.specs.Ranges.{in_space, vertex_number}
use Rattle.mesh_stream.specs.Meaning.{Outcome, outcome}

-- A check: unless it holds, its cause; else what the next ones say.
abbrev pub unless : Bool → Cause → Option Cause → Option Cause
unless true c next = next
unless false c next = Some c

-- Why an event is not accepted after a list of accepted events, if it is not. `limit` is the largest number of live vertices.
abbrev pub refusal : ℕ → List Event → Event → Option Cause
refusal limit before (Vertex p n at) =
    unless (in_space at && vertex_number n) OutOfRange
    (unless (above_all n (introduced before)) NotRising
    (unless (nat_lt (length (live before)) limit) TooManyLive None))
refusal limit before (Triangle p a b c) =
    unless (is_live before a && is_live before b && is_live before c) CornerNotLive
    (unless (nat_lt (triangles before) 100000000) TooManyTriangles None)
refusal limit before (Finalization p i) =
    unless (is_live before i) NotLive None

-- The rules by which events are judged: why an event is not accepted after a list, if it is not.
abbrev pub Rules : Type 0
Rules = List Event → Event → Option Cause

-- The accepted beginning: the longest beginning whose events are all accepted, each after those before it.
abbrev pub accept : Option Cause → Event → List Event → List Event
accept None e es = e ∷ es
accept (Some c) e es = []

abbrev pub accepted_after : Rules → List Event → List Event → List Event
accepted_after rules before [] = []
accepted_after rules before (e ∷ es) = accept (rules before e) e (accepted_after rules (before ++ (e ∷ [])) es)

abbrev pub accepted : Rules → List Event → List Event
accepted rules es = accepted_after rules [] es

-- All events of a list are accepted, each after those before it.
abbrev pub AcceptedAfter : Rules → List Event → List Event → Type 0
AcceptedAfter rules before [] = Unit {0}
AcceptedAfter rules before (e ∷ es) = (rules before e ≡ None) × AcceptedAfter rules (before ++ (e ∷ [])) es

abbrev pub Accepted : Rules → List Event → Type 0
Accepted rules es = AcceptedAfter rules [] es

-- The first event that is not accepted, with its cause: where the accepted beginning stops short.
pub record Stop : Type 0 where
  pub cause : Cause
  pub place : ℕ

abbrev pub stop : Option Cause → Event → Option Stop → Option Stop
stop None e later = later
stop (Some c) e later = Some (record { cause = c; place = place_of e })

abbrev pub stop_after : Rules → List Event → List Event → Option Stop
stop_after rules before [] = None
stop_after rules before (e ∷ es) = stop (rules before e) e (stop_after rules (before ++ (e ∷ [])) es)

abbrev pub fault : LayerName → Cause → ℕ → Standing
fault layer c p = Faulty (record { layer = layer; cause = c; place = p })

-- the lowest of n and the numbers of a list
abbrev pub lowest : ℕ → List ℕ → ℕ
lowest n [] = n
lowest n (m ∷ ms) = lowest (min n m) ms

-- At an end: with a live vertex it is the cause LeftLive, at the place of the lowest-numbered one.
abbrev pub end_with : LayerName → List Event → List ℕ → Standing
end_with layer es [] = Ended
end_with layer es (n ∷ ns) = fault layer LeftLive (birthplace es (lowest n ns))

-- How what accepted all events of a list stands, by how what handed them over stands.
abbrev pub stands_over : LayerName → List Event → Standing → Standing
stands_over layer es Waiting = Waiting
stands_over layer es Ended = end_with layer es (live es)
stands_over layer es (Faulty f) = Faulty f

-- A fault of its own comes before whatever stands below.
abbrev pub stands_by : LayerName → Option Stop → List Event → Standing → Standing
stands_by layer (Some s) es below = fault layer s.cause s.place
stands_by layer None es below = stands_over layer es below

-- What judges the items below by some rules, under its own name: their accepted beginning, and how it stands.
abbrev pub judged : LayerName → Rules → Outcome Event → Outcome Event
judged layer rules below =
    outcome (accepted rules below.items) (stands_by layer (stop_after rules [] below.items) below.items below.stands)
