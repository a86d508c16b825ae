-- What a judge's calls do: j is the judge before the call, k after it.
use Rattle.std.specs.Prelude.{◌≡◌, ℕ, ◌+◌, ◌<◌, ◌≤◌, Bool, true, false, ◌&&◌, List, [], ◌∷◌, ◌++◌, is_some, Some, None, Ok, Err, Option, Result}
use Rattle.std.specs.Result.{result_err}
use Rattle.mesh_stream.specs.declared.event.Event.{Event}
use Rattle.mesh_stream.specs.declared.event.Event.TheVariants.{Vertex, Triangle, Finalization}
use Rattle.mesh_stream.specs.declared.fault.Cause.{Cause}
use Rattle.mesh_stream.specs.declared.fault.Cause.TheVariants.{CornerNotLive, TooManyTriangles}
use Rattle.mesh_stream.specs.declared.fault.LayerName.{LayerName}
use Rattle.mesh_stream.specs.declared.stage.Standing.{Standing}
use Rattle.mesh_stream.specs.Ranges.{in_space}
use Rattle.mesh_table.specs.declared.key.Key.{Key}
use Rattle.mesh_table.specs.Keys.{vertex_key}
use Rattle.mesh_table.specs.Tables.{record_at, records, limit_of, Removed}
use Rattle.mesh_judge.specs.declared.live.Live.{Live}
use Rattle.mesh_judge.specs.declared.live.Corners.{Corners}
use Rattle.mesh_judge.specs.declared.judge.Judge.{Judge}
use Rattle.mesh_judge.specs.Accepting.{refusal, stands_over}
use Rattle.mesh_judge.specs.Windows.{Window, fresh, refuses, enters, counted, leaves, renotes, ending, Knows}

abbrev pub window_of : {T : Type 0} → Judge T → Window T
window_of j = record {
  at = λ n. record_at j.live (vertex_key n);
  live_count = records j.live;
  highest = j.highest;
  triangles = j.triangles;
}

-- the largest number of live vertices
abbrev pub live_limit : {T : Type 0} → Judge T → ℕ
live_limit j = limit_of j.live

-- The judge knows this list: it will judge what comes as the list does.
abbrev pub KnowsList : {T : Type 0} → Judge T → List Event → Type 0
KnowsList j es = Knows (live_limit j) (window_of j) es

pub record Begun {T : Type 0} (most : ℕ) (j : Judge T) : Type 0 where
  pub window : window_of j ≡ fresh
  pub limit : live_limit j ≡ most
  pub knows : KnowsList j []

-- The event is accepted, and the judge goes on with the window w.
pub record Accepts {T : Type 0} (j : Judge T) (e : Event) (w : Window T) (k : Judge T) : Type 0 where
  pub by_window : refuses (live_limit j) (window_of j) e ≡ None
  pub window : window_of k ≡ w
  pub limit : live_limit k ≡ live_limit j
  -- so it is by every list that the judge knows, and then it knows the list with this event more
  pub by_list : (es : List Event) → KnowsList j es → (refusal (live_limit j) es e ≡ None) × KnowsList k (es ++ (e ∷ []))

-- The event is not accepted for this cause, and the judge is as it was.
pub record Rejects {T : Type 0} (j : Judge T) (e : Event) (c : Cause) (k : Judge T) : Type 0 where
  pub by_window : refuses (live_limit j) (window_of j) e ≡ Some c
  pub window : window_of k ≡ window_of j
  pub limit : live_limit k ≡ live_limit j
  pub by_list : (es : List Event) → KnowsList j es → refusal (live_limit j) es e ≡ Some c

abbrev pub Entered : {T : Type 0} → Judge T → ℕ → Live T → Result (Unit {0}) Cause → Judge T → Type 0
Entered j n x (Ok _) k = Accepts j (Vertex x.place n x.at) (enters (window_of j) n x) k
Entered j n x (Err c) k = Rejects j (Vertex x.place n x.at) c k

-- What is kept of a live vertex; it stands in space.
abbrev pub KeptAt : {T : Type 0} → Window T → ℕ → Live T → Type 0
KeptAt w n x = (w.at n ≡ Some x) × (in_space x.at ≡ true)

-- What is kept of a triangle's corners.
pub record Cornered {T : Type 0} (w : Window T) (a b c : ℕ) (s : Corners T) : Type 0 where
  pub first : KeptAt w a s.a
  pub second : KeptAt w b s.b
  pub third : KeptAt w c s.c

-- The steps of judging a triangle.
abbrev pub CornerFound : {T : Type 0} → Option (Live T) → Result (Live T) Cause → Type 0
CornerFound o (Ok x) = o ≡ Some x
CornerFound o (Err q) = (o ≡ None) × (q ≡ CornerNotLive)

abbrev pub CornersFound : {T : Type 0} → Window T → ℕ → ℕ → ℕ → Result (Corners T) Cause → Type 0
CornersFound w a b c (Ok s) = (w.at a ≡ Some s.a) × (w.at b ≡ Some s.b) × (w.at c ≡ Some s.c)
CornersFound w a b c (Err q) = ((is_some (w.at a) && is_some (w.at b) && is_some (w.at c)) ≡ false) × (q ≡ CornerNotLive)

abbrev pub CountChecked : {T : Type 0} → Window T → Result (Unit {0}) Cause → Type 0
CountChecked w (Ok _) = w.triangles < 100000000
CountChecked w (Err q) = (100000000 ≤ w.triangles) × (q ≡ TooManyTriangles)

abbrev pub TriangleCounted : {T : Type 0} → Window T → Result (Unit {0}) Cause → Window T → Type 0
TriangleCounted w (Ok _) u = (w.triangles < 100000000) × (u ≡ counted w)
TriangleCounted w (Err q) u = (100000000 ≤ w.triangles) × (q ≡ TooManyTriangles) × (u ≡ w)

-- A triangle and a finalization are judged alike at every place.
pub record Checked {T : Type 0} (j : Judge T) (a b c : ℕ) (r : Result (Unit {0}) Cause) : Type 0 where
  pub by_window : (p : ℕ) → refuses (live_limit j) (window_of j) (Triangle p a b c) ≡ result_err r
  pub by_list : (p : ℕ) (es : List Event) → KnowsList j es → refusal (live_limit j) es (Triangle p a b c) ≡ result_err r

abbrev pub Counted : {T : Type 0} → Judge T → ℕ → ℕ → ℕ → Result (Corners T) Cause → Judge T → Type 0
Counted j a b c (Ok s) k = ((p : ℕ) → Accepts j (Triangle p a b c) (counted (window_of j)) k) × Cornered (window_of j) a b c s
Counted j a b c (Err q) k = (p : ℕ) → Rejects j (Triangle p a b c) q k

-- The vertex is out of the table, and the counts are as they were.
pub record TakenOut {T : Type 0} (j : Judge T) (i : ℕ) (r : Option (Live T)) (k : Judge T) : Type 0 where
  pub key : Key
  pub key_is : key ≡ vertex_key i
  pub table : Removed j.live k.live key r
  pub highest : k.highest ≡ j.highest
  pub triangles : k.triangles ≡ j.triangles

abbrev pub Left : {T : Type 0} → Judge T → ℕ → Result (Live T) Cause → Judge T → Type 0
Left j i (Ok x) k =
    ((p : ℕ) → Accepts j (Finalization p i) (leaves (window_of j) i) k) × ((window_of j).at i ≡ Some x)
    × ((window_of k).live_count + 1 ≡ (window_of j).live_count)
Left j i (Err q) k = (p : ℕ) → Rejects j (Finalization p i) q k

-- Something else is noted of a vertex, if it is live, and nothing else is changed.
pub record Renoted {T : Type 0} (j : Judge T) (n : ℕ) (x : T) (r : Bool) (k : Judge T) : Type 0 where
  pub live : r ≡ is_some ((window_of j).at n)
  pub window : window_of k ≡ renotes (window_of j) n x ((window_of j).at n)
  pub limit : live_limit k ≡ live_limit j
  -- every list that the judge knew it still knows
  pub by_list : (es : List Event) → KnowsList j es → KnowsList k es

-- How it stands over what is below, if it accepted all of it.
pub record Stands {T : Type 0} (j : Judge T) (layer : LayerName) (below s : Standing) : Type 0 where
  pub by_window : s ≡ ending layer (window_of j) below
  pub by_list : (es : List Event) → KnowsList j es → s ≡ stands_over layer es below
