-- The accepted beginning of a list.
use Rattle.std.proofs.Common.{◌≡◌, List, [], ◌∷◌, ◌++◌, Some, None, Option, sym, refl, ap, ◌∙◌, subst, append_assoc, append-nil}
use Rattle.std.proofs.lemmas.Option.{none-some}
use Rattle.mesh_stream.specs.declared.event.Event.{Event}
use Rattle.mesh_stream.specs.declared.fault.Cause.{Cause}
use Rattle.mesh_judge.specs.Accepting.{Rules, accept, accepted, accepted_after, Accepted, AcceptedAfter, stop, stop_after}
use Rattle.mesh_judge.proofs.Splitting.{accepted_split}

module _ (rules : Rules) where
  accepted_ok_after : (es before : List Event) → AcceptedAfter rules before (accepted_after rules before es)
  accepted_ok_after [] before = tt
  accepted_ok_after (e ∷ es) before = at (rules before e) refl (accepted_ok_after es (before ++ (e ∷ [])))
    where
      at : (o : Option Cause) → rules before e ≡ o → AcceptedAfter rules (before ++ (e ∷ [])) (accepted_after rules (before ++ (e ∷ [])) es)
          → AcceptedAfter rules before (accept o e (accepted_after rules (before ++ (e ∷ [])) es))
      at None k ih = (k, ih)
      at (Some c) k ih = tt

  pub accepted_ok : (es : List Event) → Accepted rules (accepted rules es)
  accepted_ok es = accepted_ok_after es []

  -- a front of an accepted list is accepted, and what is behind it is behind it
  pub accepted_parts : (xs ys before : List Event) → AcceptedAfter rules before (xs ++ ys)
      → AcceptedAfter rules before xs × AcceptedAfter rules (before ++ xs) ys
  accepted_parts [] ys before h = (tt, subst (λ (z : List Event). AcceptedAfter rules z ys) (sym (append-nil before)) h)
  accepted_parts (x ∷ xs) ys before (a, h) =
      let r = accepted_parts xs ys (before ++ (x ∷ [])) h in
      ((a, r.0), subst (λ (z : List Event). AcceptedAfter rules z ys) (append_assoc before (x ∷ []) xs) r.1)

  -- what stops nowhere is accepted
  pub not_stopped : (es before : List Event) → stop_after rules before es ≡ None → AcceptedAfter rules before es
  not_stopped [] before h = tt
  not_stopped (e ∷ es) before h = at (rules before e) refl h (not_stopped es (before ++ (e ∷ [])))
    where
      at : (o : Option Cause) → rules before e ≡ o → stop o e (stop_after rules (before ++ (e ∷ [])) es) ≡ None
          → (stop_after rules (before ++ (e ∷ [])) es ≡ None → AcceptedAfter rules (before ++ (e ∷ [])) es)
          → AcceptedAfter rules before (e ∷ es)
      at None k n ih = (k, ih n)
      at (Some c) k n ih = absurd (none-some _ (sym n))

  pub all_accepted : (es : List Event) → Accepted rules es → accepted rules es ≡ es
  all_accepted es h = ap (accepted rules) (sym (append-nil es)) ∙ accepted_split rules es [] [] h ∙ append-nil es
