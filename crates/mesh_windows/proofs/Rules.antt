-- A layer that keeps what it must know of the accepted list, and hands over what its rewriting adds, gives the whole rewriting.
use Rattle.std.proofs.Common.{◌≡◌, ℕ, List, [], ◌∷◌, ◌++◌, Some, None, Option, sym, refl, ap, ◌∙◌, append_assoc, append-nil}
use Rattle.mesh_stream.specs.declared.event.Event.{Event}
use Rattle.mesh_stream.specs.declared.fault.Cause.{Cause}
use Rattle.mesh_stream.specs.declared.fault.LayerName.{LayerName}
use Rattle.mesh_stream.specs.declared.stage.Standing.{Standing}
use Rattle.mesh_stream.specs.Events.{place_of}
use Rattle.mesh_stream.specs.Meaning.{Outcome, outcome}
use Rattle.mesh_stream.specs.Runs.{prepends}
use Rattle.mesh_judge.specs.Accepting.{refusal, fault, judged}
use Rattle.mesh_judge.specs.Windows.{Knows}
use Rattle.mesh_judge.proofs.Knowing.{refuses_is, ending_is}
use Rattle.mesh_judge.proofs.Splitting.{judged_all, judged_stop}
use Rattle.mesh_layer.specs.Machine.{after, run}
use Rattle.mesh_layer.specs.JudgingMachine.{verdict}
use Rattle.mesh_windows.specs.Windowing.{Memory, blank, Work, moves_on, machine}
use Rattle.mesh_windows.proofs.Recalling.{Recalls, Notes, recalls_none, recalls_more}

abbrev pub Making : Type 0
Making = List Event → List Event

-- The layer's machine gives the whole rewriting of what it judges.
abbrev pub GivesWhole : {T : Type 0} → ℕ → LayerName → Work T → Making → Type 0
GivesWhole limit layer work make =
    (o : Outcome Event) → run (machine limit layer work) blank o.items o.stands
    ≡ outcome (make (judged layer (refusal limit) o).items) (judged layer (refusal limit) o).stands

-- What it hands over for an accepted event is what the rewriting adds.
abbrev pub Adds : {T : Type 0} → ℕ → Work T → Making → (Memory T → List Event → Type 0) → Type 0
Adds {T} limit work make K =
    (m : Memory T) (es : List Event) (e : Event) → K m es → refusal limit es e ≡ None → make (es ++ (e ∷ [])) ≡ make es ++ work.hands m e

-- What a layer has to show of a relation between its memory and the list that it accepted.
pub record Keeps {T : Type 0} (limit : ℕ) (work : Work T) (make : Making) (K : Memory T → List Event → Type 0) : Type 0 where
  pub knows : (m : Memory T) (es : List Event) → K m es → Knows limit m.window es
  pub begins : K blank []
  -- each accepted event keeps it
  pub goes_on : (m : Memory T) (es : List Event) (e : Event) → K m es → refusal limit es e ≡ None → K (moves_on work m e) (es ++ (e ∷ []))
  pub none : make [] ≡ []
  pub adds : Adds limit work make K

module _ {T : Type 0} (limit : ℕ) (layer : LayerName) (work : Work T) (make : Making) (K : Memory T → List Event → Type 0)
    (k : Keeps limit work make K) where
  abbrev made : Outcome Event → Outcome Event
  made o = outcome (make o.items) o.stands

  abbrev judge : List Event → Standing → Outcome Event
  judge es s = judged layer (refusal limit) (outcome es s)

  abbrev go : Memory T → List Event → Standing → Outcome Event
  go m xs s = run (machine limit layer work) m xs s

  -- by the verdict on an event
  abbrev go_by : Option Cause → Memory T → Event → List Event → Standing → Outcome Event
  go_by o m e xs s = after (verdict layer e o (moves_on work m e) (work.hands m e)) (λ n. go n xs s)

  runs_after : (s : Standing) (xs es : List Event) (m : Memory T) → K m es → prepends (make es) (go m xs s) ≡ made (judge (es ++ xs) s)
  runs_after s [] es m h =
      (λ i. outcome (append-nil (make es) i) (ending_is limit m.window es (k.knows m es h) layer s i))
      ∙ sym (ap made (ap (λ (z : List Event). judge z s) (append-nil es) ∙ judged_all (refusal limit) layer es (k.knows m es h).accepted s))
  runs_after s (e ∷ xs) es m h =
      ap (λ (o : Option Cause). prepends (make es) (go_by o m e xs s)) (refuses_is limit m.window es (k.knows m es h) e)
      ∙ at (refusal limit es e) refl (λ r. runs_after s xs (es ++ (e ∷ [])) (moves_on work m e) (k.goes_on m es e h r))
    where
      at : (o : Option Cause) → refusal limit es e ≡ o
          → (refusal limit es e ≡ None
          → prepends (make (es ++ (e ∷ []))) (go (moves_on work m e) xs s) ≡ made (judge ((es ++ (e ∷ [])) ++ xs) s))
          → prepends (make es) (go_by o m e xs s) ≡ made (judge (es ++ (e ∷ xs)) s)
      at None r ih =
          ap (λ (z : List Event). outcome z (go (moves_on work m e) xs s).stands)
          (sym (append_assoc (make es) (work.hands m e) (go (moves_on work m e) xs s).items))
          ∙ ap (λ (z : List Event). prepends z (go (moves_on work m e) xs s)) (sym (k.adds m es e h r))
          ∙ ih r ∙ ap (λ (z : List Event). made (judge z s)) (append_assoc es (e ∷ []) xs)
      at (Some c) r ih =
          ap (λ (z : List Event). outcome z (fault layer c (place_of e))) (append-nil (make es))
          ∙ sym (ap made (judged_stop (refusal limit) layer es (k.knows m es h).accepted e c r xs s))

  pub gives_whole : GivesWhole limit layer work make
  gives_whole o =
      ap (λ (z : List Event). prepends z (go blank o.items o.stands)) (sym k.none)
      ∙ runs_after o.stands o.items [] blank k.begins

-- A layer whose notes are right, by what the list says of a number and how many numbers it gave.
pub gives_by_notes : {T : Type 0} (limit : ℕ) (layer : LayerName) (work : Work T) (make : Making) (view : List Event → ℕ → T)
    (count : List Event → ℕ) → Notes limit work view count → make [] ≡ [] → Adds limit work make (Recalls limit view count)
    → GivesWhole limit layer work make
gives_by_notes limit layer work make view count f none adds =
    gives_whole limit layer work make (Recalls limit view count) (record {
      knows = λ m es r. r.knows;
      begins = recalls_none limit work view count f;
      goes_on = recalls_more limit work view count f;
      none = none;
      adds = adds;
    })
