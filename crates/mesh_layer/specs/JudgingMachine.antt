-- What machines have in common that judge by a judge's window: they stop at an event that is refused, and stand as the judge does.
use Rattle.std.specs.Prelude.{List, Some, None, Option}
use Rattle.mesh_stream.specs.declared.event.Event.{Event}
use Rattle.mesh_stream.specs.declared.fault.Cause.{Cause}
use Rattle.mesh_stream.specs.declared.fault.LayerName.{LayerName}
use Rattle.mesh_stream.specs.declared.stage.Standing.{Standing}
use Rattle.mesh_stream.specs.declared.stage.Standing.TheVariants.{Waiting, Ended, Faulty}
use Rattle.mesh_stream.specs.Events.{place_of}
use Rattle.mesh_stream.specs.Meaning.{IsWaiting}
use Rattle.mesh_judge.specs.declared.live.Live.{Live}
use Rattle.mesh_judge.specs.Windows.{Window, end_by, ending, first}
use Rattle.mesh_layer.specs.Machine.{Verdict, goes, stops, Machine, Patient}

-- By why an event is refused, if it is: what is kept after it and handed over for it, if it is not.
abbrev pub verdict : {M O : Type 0} → LayerName → Event → Option Cause → M → List O → Verdict M O
verdict layer e None m out = goes m out
verdict layer e (Some c) m out = stops (record { layer = layer; cause = c; place = place_of e })

-- The machine under its name, by the window that it keeps, why it refuses an event, and what it keeps after one and hands over for it.
abbrev pub judging : {T M O : Type 0} → LayerName → (M → Window T) → (M → Event → Option Cause) → (M → Event → M)
    → (M → Event → List O) → Machine M Event O
judging layer window refused moves_on hands = record {
  step = λ m e. verdict layer e (refused m e) (moves_on m e) (hands m e);
  end = λ m s. ending layer (window m) s;
}

-- It waits exactly where what is below waits.
module _ {T : Type 0} (layer : LayerName) where
  never_waits : (v : Option (Live T)) → IsWaiting (end_by layer v) → ⊥
  never_waits None h = h
  never_waits (Some x) h = h

  ending_waits : (w : Window T) (s : Standing) → IsWaiting (ending layer w s) → IsWaiting s
  ending_waits w Waiting h = tt
  ending_waits w Ended h = never_waits (first w.at w.highest) h
  ending_waits w (Faulty f) h = h

  ending_stays : (w : Window T) (s : Standing) → IsWaiting s → IsWaiting (ending layer w s)
  ending_stays w Waiting h = tt
  ending_stays w Ended h = absurd h
  ending_stays w (Faulty f) h = absurd h

  pub judging_patient : {M O : Type 0} (window : M → Window T) (refused : M → Event → Option Cause) (moves_on : M → Event → M)
      (hands : M → Event → List O) → Patient (judging layer window refused moves_on hands)
  judging_patient window refused moves_on hands = record {
    waits = λ m. ending_waits (window m);
    stays = λ m. ending_stays (window m);
  }
