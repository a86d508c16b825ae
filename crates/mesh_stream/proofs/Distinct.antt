-- Lists of different numbers.
use Rattle.std.proofs.Common.{◌≡◌, ℕ, Bool, true, false, eqb, ◌⊎◌, List, [], ◌∷◌, ◌++◌, filter, sym, refl, subst, inl, inr}
use Rattle.std.proofs.lemmas.Bool.{ne_eqb, eqb-false, or_parts, or_from, both_ways, false_from_ne_true}
use Rattle.mesh_stream.specs.Lists.{has}
use Rattle.mesh_stream.proofs.Having.{kept_yes, kept_no, kept_within, has_cases}

abbrev pub Distinct : List ℕ → Type 0
Distinct [] = Unit {0}
Distinct (x ∷ xs) = (has x xs ≡ false) × Distinct xs

pub eqb_comm : (m n : ℕ) → eqb m n ≡ false → eqb n m ≡ false
eqb_comm m n h = ne_eqb n m (λ e. eqb-false m n h (sym e))

pub distinct_push : (xs : List ℕ) (n : ℕ) → Distinct xs → has n xs ≡ false → Distinct (xs ++ (n ∷ []))
distinct_push [] n d h = (refl, tt)
distinct_push (x ∷ xs) n (a, d) h =
    let k = or_parts (eqb n x) (has n xs) h in
    (false_from_ne_true _ (λ e. at (has_cases x xs (n ∷ []) e)), distinct_push xs n d k.1)
  where
    at : (has x xs ≡ true) ⊎ (has x (n ∷ []) ≡ true) → ⊥
    at (inl e) = both_ways (has x xs) a e
    at (inr e) = both_ways (has x (n ∷ [])) (or_from _ _ (eqb_comm n x (or_parts (eqb n x) (has n xs) h).0) refl) e

pub distinct_kept : (q : ℕ → Bool) (xs : List ℕ) → Distinct xs → Distinct (filter q xs)
distinct_kept q [] d = tt
distinct_kept q (x ∷ xs) (a, d) = at (q x) refl (distinct_kept q xs d)
  where
    at : (b : Bool) → q x ≡ b → Distinct (filter q xs) → Distinct (filter q (x ∷ xs))
    at true e ih = subst Distinct (sym (kept_yes q x xs e)) (false_from_ne_true _ (λ k. both_ways (has x xs) a (kept_within q xs x k)), ih)
    at false e ih = subst Distinct (sym (kept_no q x xs e)) ih
