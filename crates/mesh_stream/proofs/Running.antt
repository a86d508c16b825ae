-- What is left after a list of calls on any stage that keeps the law.
use Rattle.std.proofs.Common.{◌≡◌, ℕ, ◌⊎◌, List, [], ◌∷◌, ◌++◌, take, Ok, Err, sym, refl, ap, ◌∙◌, inl, inr, append_assoc, append-nil, arith}
use Rattle.mesh_stream.specs.Meaning.{Mark, unclosed, closed, Port, textless, open_for, shut, Open, prepend}
use Rattle.mesh_stream.specs.Calls.{SameKind}
use Rattle.mesh_stream.specs.Runs.{View, Call, feeds, closes, asks, Step, Run, taken, handed, mark_of, prepends, Left}

open_not_shut : (p : Port) → Open p → p ≡ shut → ⊥
open_not_shut textless o e = absurd o
open_not_shut (open_for n) o e = let z : ◌≡◌ {A = ℕ} 0 1 = cc in omega arith
open_not_shut shut o e = absurd o

kind_shut : (p q : Port) → SameKind p q → p ≡ shut → q ≡ shut
kind_shut textless q k e = k ∙ e
kind_shut (open_for n) q (a, k) e = cc
kind_shut shut q k e = k

shut_or_not : (p : Port) → (p ≡ shut) ⊎ ((p ≡ shut → ⊥) × (mark_of p ≡ unclosed))
shut_or_not textless = inr ((λ e. let z : ◌≡◌ {A = ℕ} 0 1 = cc in omega arith), refl)
shut_or_not (open_for n) = inr ((λ e. let z : ◌≡◌ {A = ℕ} 0 1 = cc in omega arith), refl)
shut_or_not shut = inl refl

module _ {I : Type 0} where
  -- A closed stage stays closed.
  step_shut : (v w : View I) (c : Call I) → Step v c w → v.port ≡ shut → w.port ≡ shut
  step_shut v w (feeds piece (Ok k)) s e = absurd (open_not_shut v.port s.was_open e)
  step_shut v w (feeds piece (Err x)) s e = s.port_same ∙ e
  step_shut v w (closes (Ok k)) s e = s.now_shut
  step_shut v w (closes (Err x)) s e = s.port_same ∙ e
  step_shut v w (asks (Ok i)) s e = kind_shut v.port w.port s.port_kept e
  step_shut v w (asks (Err x)) s e = kind_shut v.port w.port s.port_kept e

  run_shut : (cs : List (Call I)) (v w : View I) → Run v cs w → v.port ≡ shut → w.port ≡ shut
  run_shut [] v w r e = ap (λ (z : View I). z.port) r ∙ e
  run_shut (c ∷ cs) v w (u, s, r) e = run_shut cs u w r (step_shut v u c s e)

  -- While it is not closed, what came of a text comes of its rest.
  left_open : (cs : List (Call I)) (v w : View I) → Run v cs w → (w.port ≡ shut → ⊥) → (t : List ℕ) (m : Mark) → v.means (taken cs ++ t) m ≡ prepends (handed cs) (w.means t m)
  left_open [] v w r n t m = ap (λ (z : View I). z.means t m) (sym r)
  left_open (feeds piece (Ok k) ∷ cs) v w (u, s, r) n t m =
      ap (λ (z : List ℕ). v.means z m) (append_assoc (take k piece) (taken cs) t) ∙ sym (s.behind (taken cs ++ t) m) ∙ left_open cs u w r n t m
  left_open (feeds piece (Err x) ∷ cs) v w (u, s, r) n t m = absurd (n (run_shut cs u w r (s.port_same ∙ s.was_shut)))
  left_open (closes (Ok k) ∷ cs) v w (u, s, r) n t m = absurd (n (run_shut cs u w r s.now_shut))
  left_open (closes (Err x) ∷ cs) v w (u, s, r) n t m = absurd (n (run_shut cs u w r (s.port_same ∙ s.was_shut)))
  left_open (asks (Ok i) ∷ cs) v w (u, s, r) n t m = s.first (taken cs ++ t) m ∙ ap (prepend i) (left_open cs u w r n t m)
  left_open (asks (Err x) ∷ cs) v w (u, s, r) n t m = sym (s.same (taken cs ++ t) m) ∙ left_open cs u w r n t m

  shut_takes : (cs : List (Call I)) (v w : View I) → Run v cs w → v.port ≡ shut → taken cs ≡ []
  shut_takes [] v w r e = refl
  shut_takes (feeds piece (Ok k) ∷ cs) v w (u, s, r) e = absurd (open_not_shut v.port s.was_open e)
  shut_takes (feeds piece (Err x) ∷ cs) v w (u, s, r) e = shut_takes cs u w r (step_shut v u (feeds piece (Err x)) s e)
  shut_takes (closes x ∷ cs) v w (u, s, r) e = shut_takes cs u w r (step_shut v u (closes x) s e)
  shut_takes (asks x ∷ cs) v w (u, s, r) e = shut_takes cs u w r (step_shut v u (asks x) s e)

  -- A closed stage heeds no text, in every state on the way.
  left_shut : (cs : List (Call I)) (v w : View I) → Run v cs w → w.port ≡ shut → v.means (taken cs) closed ≡ prepends (handed cs) (w.means [] unclosed)
  left_shut [] v w r e = v.lawful.shut_fixed (sym (ap (λ (z : View I). z.port) r) ∙ e) [] closed ∙ ap (λ (z : View I). z.means [] unclosed) (sym r)
  left_shut (feeds piece (Ok k) ∷ cs) v w (u, s, r) e = sym (s.behind (taken cs) closed) ∙ left_shut cs u w r e
  left_shut (feeds piece (Err x) ∷ cs) v w (u, s, r) e = sym (s.same (taken cs) closed) ∙ left_shut cs u w r e
  left_shut (closes (Ok k) ∷ cs) v w (u, s, r) e =
      ap (λ (z : List ℕ). v.means z closed) (shut_takes cs u w r s.now_shut) ∙ sym (s.final (taken cs) closed) ∙ left_shut cs u w r e
  left_shut (closes (Err x) ∷ cs) v w (u, s, r) e = sym (s.same (taken cs) closed) ∙ left_shut cs u w r e
  left_shut (asks (Ok i) ∷ cs) v w (u, s, r) e = s.first (taken cs) closed ∙ ap (prepend i) (left_shut cs u w r e)
  left_shut (asks (Err x) ∷ cs) v w (u, s, r) e = sym (s.same (taken cs) closed) ∙ left_shut cs u w r e

  pub left : (cs : List (Call I)) (v w : View I) → Run v cs w → Left v.means cs w
  left cs v w r = record { now_left = at (shut_or_not w.port); still_left = left_open cs v w r }
    where
      at : (w.port ≡ shut) ⊎ ((w.port ≡ shut → ⊥) × (mark_of w.port ≡ unclosed)) → v.means (taken cs) (mark_of w.port) ≡ prepends (handed cs) (w.means [] unclosed)
      at (inl e) = ap (λ (p : Port). v.means (taken cs) (mark_of p)) e ∙ left_shut cs v w r e
      at (inr n) = ap (v.means (taken cs)) n.1 ∙ ap (λ (z : List ℕ). v.means z unclosed) (sym (append-nil (taken cs))) ∙ left_open cs v w r n.0 [] unclosed
