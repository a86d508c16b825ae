-- What a judge keeps of the events that it accepted, its window, and judging by the window alone.
use Rattle.std.specs.Prelude.{◌≡◌, ℕ, zero, suc, ◌+◌, ◌-◌, max, cond, ◌&&◌, List, [], ◌∷◌, length, is_some, Some, None, Option, ◌==◌, nat_lt}
use Rattle.std.specs.Option.{option_or}
use Rattle.mesh_stream.specs.declared.event.Point.{Point}
use Rattle.mesh_stream.specs.declared.event.Event.{Event}
use Rattle.mesh_stream.specs.declared.event.Event.TheVariants.{Vertex, Triangle, Finalization}
use Rattle.mesh_stream.specs.declared.fault.Cause.{Cause}
use Rattle.mesh_stream.specs.declared.fault.Cause.TheVariants.{OutOfRange, NotRising, TooManyLive, CornerNotLive, NotLive, LeftLive, TooManyTriangles}
use Rattle.mesh_stream.specs.declared.fault.LayerName.{LayerName}
use Rattle.mesh_stream.specs.declared.stage.Standing.{Standing}
use Rattle.mesh_stream.specs.declared.stage.Standing.TheVariants.{Waiting, Ended, Faulty}
use Rattle.mesh_stream.specs.Events.{introduced, triangles, point, birthplace}
use Rattle.mesh_stream.specs.Live.{live, is_live}
use Rattle.mesh_stream.specs.Ranges.{in_space, vertex_number}
use Rattle.mesh_judge.specs.declared.live.Live.{Live}
use Rattle.mesh_judge.specs.Accepting.{unless, refusal, Accepted, fault}

-- The live vertices by number, how many there are, the highest number and the count of triangles so far.
pub record Window (T : Type 0) : Type 0 where
  pub at : ℕ → Option (Live T)
  pub live_count : ℕ
  pub highest : ℕ
  pub triangles : ℕ

-- before the first event
abbrev pub fresh : {T : Type 0} → Window T
fresh = record { at = λ n. None; live_count = 0; highest = 0; triangles = 0 }

-- Why an event is refused, by the window.
abbrev pub refuses : {T : Type 0} → ℕ → Window T → Event → Option Cause
refuses limit w (Vertex p n v) =
    unless (in_space v && vertex_number n) OutOfRange
    (unless (nat_lt w.highest n) NotRising
    (unless (nat_lt w.live_count limit) TooManyLive None))
refuses limit w (Triangle p a b c) =
    unless (is_some (w.at a) && is_some (w.at b) && is_some (w.at c)) CornerNotLive
    (unless (nat_lt w.triangles 100000000) TooManyTriangles None)
refuses limit w (Finalization p i) = unless (is_some (w.at i)) NotLive None

-- a function changed at one number
abbrev pub put : {A : Type 0} → (ℕ → A) → ℕ → A → ℕ → A
put f m o n = cond (n == m) o (f n)

-- A vertex comes in, a triangle is counted, a vertex goes.
abbrev pub enters : {T : Type 0} → Window T → ℕ → Live T → Window T
enters w n x = record { at = put w.at n (Some x); live_count = w.live_count + 1; highest = n; triangles = w.triangles }

abbrev pub counted : {T : Type 0} → Window T → Window T
counted w = record { at = w.at; live_count = w.live_count; highest = w.highest; triangles = w.triangles + 1 }

abbrev pub leaves : {T : Type 0} → Window T → ℕ → Window T
leaves w i = record { at = put w.at i None; live_count = w.live_count - 1; highest = w.highest; triangles = w.triangles }

-- Something else is noted of vertex n, which was kept as it is at n: where it was introduced and where it stands stay.
abbrev pub renoted : {T : Type 0} → Window T → ℕ → Live T → T → Window T
renoted w n v x = record {
  at = put w.at n (Some (record { place = v.place; at = v.at; note = x }));
  live_count = w.live_count;
  highest = w.highest;
  triangles = w.triangles;
}

-- The same if the vertex is live: by what is at n.
abbrev pub renotes : {T : Type 0} → Window T → ℕ → T → Option (Live T) → Window T
renotes w n x None = w
renotes w n x (Some v) = renoted w n v x

-- What is at the first of the numbers 0 to k at which there is something.
abbrev pub first : {A : Type 0} → (ℕ → Option A) → ℕ → Option A
first f zero = f 0
first f (suc k) = option_or (first f k) (f (suc k))

abbrev pub end_by : {T : Type 0} → LayerName → Option (Live T) → Standing
end_by layer None = Ended
end_by layer (Some v) = fault layer LeftLive v.place

-- How what judges by the window stands over what is below, if it accepted all of it.
abbrev pub ending : {T : Type 0} → LayerName → Window T → Standing → Standing
ending layer w Waiting = Waiting
ending layer w Ended = end_by layer (first w.at w.highest)
ending layer w (Faulty f) = Faulty f

-- Where a vertex stands and where it was introduced: what a window must know of it.
pub record Origin : Type 0 where
  pub place : ℕ
  pub point : Point

abbrev pub origin : {T : Type 0} → Option (Live T) → Option Origin
origin None = None
origin (Some v) = Some (record { place = v.place; point = v.at })

abbrev pub origin_by : List Event → ℕ → Origin
origin_by es n = record { place = birthplace es n; point = point es n }

abbrev pub origin_in : List Event → ℕ → Option Origin
origin_in es n = cond (is_live es n) (Some (origin_by es n)) None

abbrev pub largest : List ℕ → ℕ
largest [] = 0
largest (n ∷ ns) = max n (largest ns)

-- The window knows this list of accepted events: it has all of it that judging asks for.
pub record Knows {T : Type 0} (limit : ℕ) (w : Window T) (es : List Event) : Type 0 where
  pub accepted : Accepted (refusal limit) es
  pub at : (n : ℕ) → origin (w.at n) ≡ origin_in es n
  pub live_count : w.live_count ≡ length (live es)
  pub highest : w.highest ≡ largest (introduced es)
  pub triangles : w.triangles ≡ triangles es
