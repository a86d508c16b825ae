-- Facts on `has` and `above_all`.
use Rattle.std.proofs.Common.{◌≡◌, ℕ, ◌<◌, Bool, true, false, cond, ◌&&◌, eqb, ltb, ◌⊎◌, List, [], ◌∷◌, ◌++◌, filter, sym, refl, ap, ◌∙◌, inl, inr, lt_irrefl, arith}
use Rattle.std.proofs.lemmas.Bool.{eqb-true, eq-eqb, or_cases, or_left, and_parts, both_ways, ltb-true, false_from_ne_true}
use Rattle.std.proofs.lemmas.List.Folds.{list_any-append}
use Rattle.std.proofs.lemmas.Map.Views.{any-filter_same}
use Rattle.mesh_stream.specs.Lists.{has, above_all}

module _ {X : Type 0} (p : X → Bool) where
  pub kept_yes : (x : X) (xs : List X) → p x ≡ true → filter p (x ∷ xs) ≡ x ∷ filter p xs
  kept_yes x xs e = ap (λ b. cond b (x ∷ filter p xs) (filter p xs)) e

  pub kept_no : (x : X) (xs : List X) → p x ≡ false → filter p (x ∷ xs) ≡ filter p xs
  kept_no x xs e = ap (λ b. cond b (x ∷ filter p xs) (filter p xs)) e

-- what a filter has is what passes it
pub has_filter : (q : ℕ → Bool) (n : ℕ) (xs : List ℕ) → has n (filter q xs) ≡ (q n && has n xs)
has_filter q n xs = any-filter_same (eqb n) q (q n) (λ m t. ap q (sym (eqb-true n m t))) xs

-- every number of the one stands in the other
abbrev pub Within : List ℕ → List ℕ → Type 0
Within xs ys = (n : ℕ) → has n xs ≡ true → has n ys ≡ true

pub kept_within : (q : ℕ → Bool) (xs : List ℕ) → Within (filter q xs) xs
kept_within q xs n h = (and_parts (q n) (has n xs) (sym (has_filter q n xs) ∙ h)).1

pub has_left : (n : ℕ) (xs ys : List ℕ) → has n xs ≡ true → has n (xs ++ ys) ≡ true
has_left n xs ys h = list_any-append (eqb n) xs ys ∙ or_left _ _ h

pub has_cases : (n : ℕ) (xs ys : List ℕ) → has n (xs ++ ys) ≡ true → (has n xs ≡ true) ⊎ (has n ys ≡ true)
has_cases n xs ys h = or_cases _ _ (sym (list_any-append (eqb n) xs ys) ∙ h)

pub has_self : (n : ℕ) (xs : List ℕ) → has n (n ∷ xs) ≡ true
has_self n xs = or_left _ _ (eq-eqb n n refl)

pub not_has_nil : (n : ℕ) → has n [] ≡ true → ⊥
not_has_nil n h = both_ways false refl h

-- above every one of them
pub above_has : (k : ℕ) (xs : List ℕ) → above_all k xs ≡ true → (n : ℕ) → has n xs ≡ true → n < k
above_has k [] a n h = absurd (not_has_nil n h)
above_has k (x ∷ xs) a n h = at (or_cases (eqb n x) (has n xs) h) (above_has k xs (and_parts (ltb x k) (above_all k xs) a).1 n)
  where
    at : (eqb n x ≡ true) ⊎ (has n xs ≡ true) → (has n xs ≡ true → n < k) → n < k
    at (inl e) ih = let l = ltb-true x k (and_parts (ltb x k) (above_all k xs) a).0 in omega (arith, eqb-true n x e)
    at (inr e) ih = ih e

pub above_not_has : (k : ℕ) (xs : List ℕ) → above_all k xs ≡ true → has k xs ≡ false
above_not_has k xs a = false_from_ne_true (has k xs) (λ e. lt_irrefl k (above_has k xs a k e))
