-- Judging a list whose front is accepted.
use Rattle.std.proofs.Common.{◌≡◌, List, [], ◌∷◌, ◌++◌, Some, Option, sym, ap, ◌∙◌, append_assoc, append-nil}
use Rattle.mesh_stream.specs.declared.event.Event.{Event}
use Rattle.mesh_stream.specs.declared.fault.Cause.{Cause}
use Rattle.mesh_stream.specs.declared.fault.LayerName.{LayerName}
use Rattle.mesh_stream.specs.declared.stage.Standing.{Standing}
use Rattle.mesh_stream.specs.Events.{place_of}
use Rattle.mesh_stream.specs.Meaning.{outcome}
use Rattle.mesh_judge.specs.Accepting.{Rules, accept, accepted_after, Accepted, AcceptedAfter, Stop, stop, stop_after, fault, stands_over, stands_by, judged}

module _ (rules : Rules) where
  pub accepted_split : (xs ys before : List Event) → AcceptedAfter rules before xs → accepted_after rules before (xs ++ ys) ≡ xs ++ accepted_after rules (before ++ xs) ys
  accepted_split [] ys before h = ap (λ (z : List Event). accepted_after rules z ys) (sym (append-nil before))
  accepted_split (x ∷ xs) ys before (a, h) =
      ap (λ (o : Option Cause). accept o x (accepted_after rules (before ++ (x ∷ [])) (xs ++ ys))) a
      ∙ ap (λ (z : List Event). x ∷ z) (accepted_split xs ys (before ++ (x ∷ [])) h ∙ ap (λ (z : List Event). xs ++ accepted_after rules z ys) (append_assoc before (x ∷ []) xs))

  stop_split : (xs ys before : List Event) → AcceptedAfter rules before xs → stop_after rules before (xs ++ ys) ≡ stop_after rules (before ++ xs) ys
  stop_split [] ys before h = ap (λ (z : List Event). stop_after rules z ys) (sym (append-nil before))
  stop_split (x ∷ xs) ys before (a, h) =
      ap (λ (o : Option Cause). stop o x (stop_after rules (before ++ (x ∷ [])) (xs ++ ys))) a
      ∙ stop_split xs ys (before ++ (x ∷ [])) h ∙ ap (λ (z : List Event). stop_after rules z ys) (append_assoc before (x ∷ []) xs)

  module _ (layer : LayerName) (es : List Event) (ok : Accepted rules es) where
    -- The accepted front stays, and the rest is judged behind it.
    pub judged_after : (xs : List Event) (s : Standing) → judged layer rules (outcome (es ++ xs) s) ≡ outcome (es ++ accepted_after rules es xs) (stands_by layer (stop_after rules es xs) (es ++ xs) s)
    judged_after xs s =
        ap (λ (z : List Event). outcome z (stands_by layer (stop_after rules [] (es ++ xs)) (es ++ xs) s)) (accepted_split es xs [] ok)
        ∙ ap (λ (o : Option Stop). outcome (es ++ accepted_after rules es xs) (stands_by layer o (es ++ xs) s)) (stop_split es xs [] ok)

    pub judged_all : (s : Standing) → judged layer rules (outcome es s) ≡ outcome es (stands_over layer es s)
    judged_all s =
        ap (λ (z : List Event). judged layer rules (outcome z s)) (sym (append-nil es)) ∙ judged_after [] s
        ∙ ap (λ (z : List Event). outcome z (stands_over layer z s)) (append-nil es)

    pub judged_stop : (e : Event) (c : Cause) → rules es e ≡ Some c → (xs : List Event) (s : Standing) → judged layer rules (outcome (es ++ (e ∷ xs)) s) ≡ outcome es (fault layer c (place_of e))
    judged_stop e c h xs s =
        judged_after (e ∷ xs) s
        ∙ ap (λ (o : Option Cause). outcome (es ++ accept o e (accepted_after rules (es ++ (e ∷ [])) xs)) (stands_by layer (stop o e (stop_after rules (es ++ (e ∷ [])) xs)) (es ++ (e ∷ xs)) s)) h
        ∙ ap (λ (z : List Event). outcome z (fault layer c (place_of e))) (append-nil es)
