-- What a report keeps of the events that it took, and what its calls do.
use Rattle.std.specs.Prelude.{◌≡◌, ℕ, ◌+◌, ◌<◌, cond, ◌⊎◌, List, [], ◌∷◌, ◌++◌, length, take, Some, None, Ok, Err, Result, nat_le}
use Rattle.mesh_stream.specs.declared.event.Event.{Event}
use Rattle.mesh_stream.specs.declared.fault.Cause.{Cause}
use Rattle.mesh_stream.specs.declared.fault.LayerName.TheVariants.{Report as ReportName}
use Rattle.mesh_stream.specs.declared.stage.Standing.{Standing}
use Rattle.mesh_stream.specs.declared.stage.Standing.TheVariants.{Waiting, Ended, Faulty}
use Rattle.mesh_stream.specs.Events.{place_of, introduced, finalized, triangles}
use Rattle.mesh_stream.specs.Live.{width}
use Rattle.mesh_stream.specs.Meaning.{Mark, unclosed, Outcome, outcome, Meaning, Port, IsWaiting, Same}
use Rattle.mesh_stream.specs.Calls.{SameKind, Roomy, HandsOver}
use Rattle.mesh_stream.specs.Runs.{prepends}
use Rattle.mesh_judge.specs.Accepting.{refusal, fault, stands_over, judged}
use Rattle.mesh_judge.specs.Judging.{KnowsList, live_limit}
use Rattle.mesh_report.specs.declared.totals.Totals.{Totals}
use Rattle.mesh_report.specs.declared.report.Report.{Report}
use Rattle.mesh_report.specs.Areas.{area}

-- The totals of a whole list.
abbrev pub totals_of : List Event → Totals
totals_of es = record {
  vertices = length (introduced es);
  triangles = triangles es;
  finalized = length (finalized es);
  width = width es;
  area = area es;
}

-- What the report, judging like a layer, takes in all of what is below. At most 1,024 vertices may be live.
abbrev pub reported : Outcome Event → Outcome Event
reported below = judged ReportName (refusal 1024) below

-- What it has taken, and how it stands, once it was asked for n events in all: it meets an end or a fault only where it is asked
-- for more than there are.
abbrev pub once_asked_for : ℕ → Outcome Event → Outcome Event
once_asked_for n o = cond (nat_le n (length o.items)) (outcome (take n o.items) Waiting) o

-- What a report has counted, and how it stands.
abbrev pub totals_in : Report → Totals
totals_in r = r.totals

abbrev pub standing_of : Report → Standing
standing_of r = r.standing

-- The report r has taken the events es, all of them accepted: its totals are those of the whole list, and it judges by that list.
pub record Taken (r : Report) (es : List Event) : Type 0 where
  pub totals : r.totals ≡ totals_of es
  pub knows : KnowsList r.judge es
  pub limit : live_limit r.judge ≡ 1024

pub record Started (r : Report) : Type 0 where
  pub taken : Taken r []
  pub standing : r.standing ≡ Waiting

-- r is the report and s it after the call.
module _ (r s : Report) where
  -- Every list that r has taken is taken by s too, with these events more.
  abbrev pub TakesMore : List Event → Type 0
  TakesMore took = (es : List Event) → Taken r es → Taken s (es ++ took)

  abbrev pub NotAccepted : List Event → Event → Cause → Type 0
  NotAccepted took e c = (es : List Event) → Taken r es → refusal 1024 (es ++ took) e ≡ Some c

  -- One event is taken, or it is not accepted.
  pub record TakesOne (e : Event) : Type 0 where
    pub accepted : (es : List Event) → Taken r es → refusal 1024 es e ≡ None
    pub takes : TakesMore (e ∷ [])
    pub standing : s.standing ≡ r.standing

  pub record TakesNone (e : Event) (c : Cause) : Type 0 where
    pub why : (es : List Event) → Taken r es → refusal 1024 es e ≡ Some c
    pub takes : TakesMore []
    pub standing : s.standing ≡ r.standing

  abbrev pub Took : Event → Result (Unit {0}) Cause → Type 0
  Took e (Ok _) = TakesOne e
  Took e (Err c) = TakesNone e c

  -- p and G are the port and the meaning of the stage, q and H after the call.
  module _ (p : Port) (G : Meaning Event) (q : Port) (H : Meaning Event) where
    -- The stage gave none: it stands as below, and the report over it.
    pub record GaveNone (took : List Event) (below : Standing) : Type 0 where
      pub behind : (t : List ℕ) (m : Mark) → G t m ≡ prepends took (H t m)
      pub none : H [] unclosed ≡ outcome [] below
      pub standing : (es : List Event) → Taken r es → s.standing ≡ stands_over ReportName (es ++ took) below
      -- if the report stays open, the stage has room
      pub roomy : IsWaiting s.standing → Roomy q

    -- The stage gave e, which is not accepted: it is gone from the stage, and not counted.
    pub record MetFault (took : List Event) (e : Event) (c : Cause) : Type 0 where
      pub behind : (t : List ℕ) (m : Mark) → G t m ≡ prepends (took ++ (e ∷ [])) (H t m)
      pub why : NotAccepted took e c
      pub standing : s.standing ≡ fault ReportName c (place_of e)

    abbrev pub Halted : List Event → Type 0
    Halted took = ((below : Standing) × GaveNone took below) ⊎ ((e : Event) × (c : Cause) × MetFault took e c)

    -- The stage goes on behind these events.
    pub record GoesOn (took : List Event) : Type 0 where
      pub behind : (t : List ℕ) (m : Mark) → G t m ≡ prepends took (H t m)
      pub standing : s.standing ≡ Waiting

    -- An open report was asked for n events and took these. Fewer than n means that the stage gave none or that a fault was met.
    pub record Runs (n : ℕ) (took : List Event) : Type 0 where
      pub takes : TakesMore took
      pub port_kept : SameKind p q
      pub ends : ((length took ≡ n) × GoesOn took) ⊎ ((length took < n) × Halted took)
      -- the same by the whole list, of the events taken before and of those that the stage has now
      pub whole : (es : List Event) → Taken r es → once_asked_for (length es + n) (reported (outcome (es ++ (G [] unclosed).items) (G [] unclosed).stands)) ≡ outcome (es ++ took) s.standing

    -- An open report took all that the stage has now, or all before a fault.
    pub record RunsOut (took : List Event) : Type 0 where
      pub takes : TakesMore took
      pub port_kept : SameKind p q
      pub ends : Halted took
      pub whole : (es : List Event) → Taken r es → reported (outcome (es ++ (G [] unclosed).items) (G [] unclosed).stands) ≡ outcome (es ++ took) s.standing

    -- After an end or a fault nothing is asked, and the report and the stage are as they were.
    pub record StaysPut : Type 0 where
      pub report : s ≡ r
      pub same : Same G H
      pub port_same : q ≡ p

    -- The answer of a run is how many events are taken.
    abbrev pub RanFrom : Standing → ℕ → ℕ → Type 0
    RanFrom Waiting n k = (took : List Event) × (k ≡ length took) × Runs n took
    RanFrom Ended n k = (k ≡ 0) × StaysPut
    RanFrom (Faulty f) n k = (k ≡ 0) × StaysPut

    abbrev pub RanOutFrom : Standing → Type 0
    RanOutFrom Waiting = (took : List Event) × RunsOut took
    RanOutFrom Ended = StaysPut
    RanOutFrom (Faulty f) = StaysPut

    -- Nothing is taken, and the run is over.
    abbrev pub Stops : Type 0
    Stops = TakesMore [] × SameKind p q × Halted []

-- u is s, but stands so.
pub record StandsSo (s : Report) (so : Standing) (u : Report) : Type 0 where
  pub judge : u.judge ≡ s.judge
  pub totals : u.totals ≡ s.totals
  pub standing : u.standing ≡ so

-- One event is asked for: it is taken, or the run is over once the report stands as answered.
abbrev pub Asked : Report → Report → Port → Meaning Event → Port → Meaning Event → Result (Unit {0}) Standing → Type 0
Asked r s p G q H (Ok _) = (e : Event) × TakesOne r s e × HandsOver p G e q H
Asked r s p G q H (Err so) = (u : Report) → StandsSo s so u → Stops r u p G q H
