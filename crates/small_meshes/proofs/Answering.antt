-- What next answers in a list of calls, by what the stage meant before them.
use Rattle.std.proofs.Common.{◌≡◌, ℕ, List, [], ◌∷◌, ◌++◌, take, Ok, Err, Result, sym, ap, ◌∙◌}
use Rattle.mesh_stream.specs.declared.stage.Standing.{Standing}
use Rattle.mesh_stream.specs.Meaning.{Mark, unclosed, Outcome, outcome, Meaning}
use Rattle.mesh_stream.specs.Runs.{View, Call, feeds, closes, asks, Step, Run}

abbrev pub first_or : {I : Type 0} → List I → Standing → Result I Standing
first_or [] s = Err s
first_or (i ∷ is) s = Ok i

-- the first item, or how the stage stands where there is none
abbrev pub answer_of : {I : Type 0} → Outcome I → Result I Standing
answer_of o = first_or o.items o.stands

abbrev pub behind_first : {I : Type 0} → List I → List I
behind_first [] = []
behind_first (i ∷ is) = is

-- what an answer leaves of an outcome
abbrev pub left_by : {I : Type 0} → Result I Standing → Outcome I → Outcome I
left_by (Ok i) o = outcome (behind_first o.items) o.stands
left_by (Err s) o = o

-- Each answer of next is that of what the bytes taken so far mean, less what was handed over; up to a call that is refused or a close.
abbrev pub GoesBy : {I : Type 0} → Meaning I → List (Call I) → Type 0
GoesBy G [] = Unit {0}
GoesBy G (feeds piece (Ok k) ∷ cs) = GoesBy (λ t m. G (take k piece ++ t) m) cs
GoesBy G (feeds piece (Err e) ∷ cs) = Unit {0}
GoesBy G (closes r ∷ cs) = Unit {0}
GoesBy G (asks a ∷ cs) = (a ≡ answer_of (G [] unclosed)) × GoesBy (λ t m. left_by (answer_of (G [] unclosed)) (G t m)) cs

module _ {I : Type 0} where
  answers : (v u : View I) (a : Result I Standing) → Step v (asks a) u → a ≡ answer_of (v.means [] unclosed)
  answers v u (Ok i) s = sym (ap answer_of (s.first [] unclosed))
  answers v u (Err x) s = sym (ap answer_of s.none)

  leaves : (v u : View I) (a : Result I Standing) → Step v (asks a) u → (t : List ℕ) (m : Mark) → u.means t m ≡ left_by a (v.means t m)
  leaves v u (Ok i) s t m = sym (ap (left_by (Ok i)) (s.first t m))
  leaves v u (Err x) s t m = s.same t m

  pub goes_by : (G : Meaning I) (cs : List (Call I)) (v w : View I) → ((t : List ℕ) (m : Mark) → v.means t m ≡ G t m) → Run v cs w → GoesBy G cs
  goes_by G [] v w e r = tt
  goes_by G (feeds piece (Ok k) ∷ cs) v w e (u, s, r) =
      goes_by (λ t m. G (take k piece ++ t) m) cs u w (λ t m. s.behind t m ∙ e (take k piece ++ t) m) r
  goes_by G (feeds piece (Err x) ∷ cs) v w e r = tt
  goes_by G (closes x ∷ cs) v w e r = tt
  goes_by G (asks a ∷ cs) v w e (u, s, r) =
      let h : a ≡ answer_of (G [] unclosed) = answers v u a s ∙ ap answer_of (e [] unclosed) in (
        h,
        goes_by (λ t m. left_by (answer_of (G [] unclosed)) (G t m)) cs u w
            (λ t m. leaves v u a s t m ∙ ap (left_by a) (e t m) ∙ ap (λ (z : Result I Standing). left_by z (G t m)) h) r,
      )
