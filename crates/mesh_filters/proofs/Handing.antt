-- What every filter that judges keeps of the laws of filters.
use Rattle.std.proofs.Common.{◌≡◌, ℕ, List, [], Some, None, Option, Ok, Err, Result, sym, ap, ◌∙◌}
use Rattle.std.specs.Result.{IsErrAnd}
use Rattle.mesh_stream.specs.declared.event.Event.{Event}
use Rattle.mesh_stream.specs.declared.fault.Cause.{Cause}
use Rattle.mesh_stream.specs.declared.fault.LayerName.{LayerName}
use Rattle.mesh_stream.specs.Meaning.{Outcome, prepend}
use Rattle.mesh_judge.specs.declared.judge.Judge.{Judge}
use Rattle.mesh_judge.specs.Windows.{Window, refuses}
use Rattle.mesh_judge.specs.Judging.{window_of, live_limit, Begun, Accepts, Rejects}
use Rattle.mesh_layer.specs.Filtering.{Takes}
use Rattle.mesh_layer.specs.Machine.{Machine, run, after, runs_on}
use Rattle.mesh_layer.specs.JudgingMachine.{verdict}
use Rattle.mesh_layer.specs.Faults.{or_fault}
use Rattle.mesh_windows.specs.Windowing.{Memory, blank, remembers, Work, moves_on, machine}
use Rattle.mesh_filters.specs.Handing.{memory_by, means, HandsOver, Handed}

-- From the judge's answer to the filter's.
module _ {T : Type 0} (work : Work T) (j k : Judge T) (given now : ℕ) (e : Event) where
  pub hands_over : (w : Window T) (out : List Event) → Accepts j e w k → remembers w now ≡ moves_on work (memory_by j given) e
      → out ≡ work.hands (memory_by j given) e → HandsOver work j given e out k now
  hands_over w out a m h = record {
    accepted = a.by_window;
    limit = a.limit;
    memory = ap (λ (u : Window T). remembers u now) a.window ∙ m;
    handed = h;
  }

module _ {T : Type 0} (work : Work T) (j k : Judge T) (given : ℕ) (e : Event) where
  pub not_handed : {H : Type 0} (listed : H → List Event) (c : Cause) (r : Result H Cause) → Rejects j e c k
      → IsErrAnd r (λ q. q ≡ c) → Handed listed work j given e r k given
  not_handed listed c (Ok rest) f h = absurd h
  not_handed listed c (Err q) f h = record {
    refused = f.by_window ∙ ap (λ (x : Cause). Some x) (sym h);
    limit = f.limit;
    memory = ap (λ (u : Window T). remembers u given) f.window;
  }

module _ {T : Type 0} (layer : LayerName) (work : Work T) (j : Judge T) (given : ℕ) where
  abbrev at : ℕ → Machine (Memory T) Event Event
  at limit = machine limit layer work

  -- From what it does with an event to the machine.
  abbrev goes_by : Event → Option Cause → Outcome Event → Outcome Event
  goes_by e v o =
      after (verdict layer e v (moves_on work (memory_by j given) e) (work.hands (memory_by j given) e))
      (λ m. run (at (live_limit j)) m o.items o.stands)

  by_verdict : (e : Event) (v : Option Cause) → refuses (live_limit j) (window_of j) e ≡ v → (o : Outcome Event)
      → means layer work j given [] (prepend e o) ≡ goes_by e v o
  by_verdict e v h o = ap (λ (u : Option Cause). goes_by e u o) h

  goes_on : (e : Event) (out : List Event) (k : Judge T) (now : ℕ) → HandsOver work j given e out k now → (o : Outcome Event)
      → means layer work j given [] (prepend e o) ≡ means layer work k now out o
  goes_on e out k now h o =
      by_verdict e None h.accepted o ∙ (λ i. runs_on (at (sym h.limit i)) (sym h.handed i) (sym h.memory i) o)

  all_handed : {H : Type 0} (listed : H → List Event) (empty : H) → listed empty ≡ [] → (o : Outcome Event)
      → means layer work j given (listed empty) o ≡ means layer work j given [] o
  all_handed listed empty none o = ap (λ (z : List Event). means layer work j given z o) none

  pub takes : {H : Type 0} (listed : H → List Event) (empty : H) → listed empty ≡ [] → (e : Event) (r : Result H Cause)
      (k : Judge T) (now : ℕ) → Handed listed work j given e r k now
      → Takes empty (λ h. means layer work j given (listed h)) e (or_fault r layer e) (λ h. means layer work k now (listed h))
  takes listed empty none e (Ok rest) k now h = λ o. all_handed listed empty none (prepend e o) ∙ goes_on e (listed rest) k now h o
  takes listed empty none e (Err c) k now h = (
    λ o. all_handed listed empty none (prepend e o) ∙ by_verdict e (Some c) h.refused o,
    λ g o i. runs_on (at (h.limit i)) (listed g) (h.memory i) o,
  )

-- A new filter is its machine before the first event.
pub begins : {T : Type 0} (layer : LayerName) (work : Work T) (j : Judge T) → Begun 1024 j → (o : Outcome Event)
    → means layer work j 0 [] o ≡ run (machine 1024 layer work) blank o.items o.stands
begins layer work j b o = λ i. run (machine (b.limit i) layer work) (remembers (b.window i) 0) o.items o.stands
