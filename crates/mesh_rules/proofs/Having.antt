-- More facts on `has` and `above_all`, of filtered, joined and mapped lists.
use Rattle.std.proofs.Common.{◌≡◌, ℕ, suc, ◌<◌, ◌≤◌, Bool, true, false, ◌&&◌, ◌||◌, eqb, ltb, ◌⊎◌, List, [], ◌∷◌, ◌++◌, map, length, filter, sym, refl, ap, ◌∙◌, inl, inr, arith}
use Rattle.std.proofs.lemmas.Bool.{eqb-true, eq-eqb, or_cases, or_left, or_right, and_parts, and_from, lt-ltb}
use Rattle.std.proofs.lemmas.List.Folds.{list_any-append}
use Rattle.mesh_stream.specs.Lists.{has, above_all}
use Rattle.mesh_stream.proofs.Having.{kept_yes, kept_no, has_filter, Within, has_self, not_has_nil}

pub kept_len : {X : Type 0} (p : X → Bool) (xs : List X) → length (filter p xs) ≤ length xs
kept_len p [] = omega arith
kept_len p (x ∷ xs) = at (p x) refl (kept_len p xs)
  where
    at : (b : Bool) → p x ≡ b → length (filter p xs) ≤ length xs → length (filter p (x ∷ xs)) ≤ suc (length xs)
    at true e h = rw (kept_yes p x xs e) (omega arith)
    at false e h = rw (kept_no p x xs e) (omega arith)

-- what passes stays
pub has_kept : (q : ℕ → Bool) (n : ℕ) → q n ≡ true → (xs : List ℕ) → has n (filter q xs) ≡ has n xs
has_kept q n y xs = has_filter q n xs ∙ ap (λ b. b && has n xs) y

pub has_kept_passes : (q : ℕ → Bool) (n : ℕ) (xs : List ℕ) → has n (filter q xs) ≡ true → q n ≡ true
has_kept_passes q n xs h = (and_parts (q n) (has n xs) (sym (has_filter q n xs) ∙ h)).0

pub above_kept : (q : ℕ → Bool) (n : ℕ) (xs : List ℕ) → above_all n xs ≡ true → above_all n (filter q xs) ≡ true
above_kept q n [] h = refl
above_kept q n (x ∷ xs) h = at (q x) refl (above_kept q n xs (and_parts (ltb x n) (above_all n xs) h).1)
  where
    at : (b : Bool) → q x ≡ b → above_all n (filter q xs) ≡ true → above_all n (filter q (x ∷ xs)) ≡ true
    at true e ih = rw (kept_yes q x xs e) (and_from _ _ (and_parts (ltb x n) (above_all n xs) h).0 ih)
    at false e ih = rw (kept_no q x xs e) ih

pub has-++ : (n : ℕ) (xs ys : List ℕ) → has n (xs ++ ys) ≡ (has n xs || has n ys)
has-++ n xs ys = list_any-append (eqb n) xs ys

pub has_right : (n : ℕ) (xs ys : List ℕ) → has n ys ≡ true → has n (xs ++ ys) ≡ true
has_right n xs ys h = has-++ n xs ys ∙ or_right _ _ h

pub none_within_nil : (xs : List ℕ) → Within xs [] → xs ≡ []
none_within_nil [] w = refl
none_within_nil (x ∷ xs) w = absurd (not_has_nil x (w x (has_self x xs)))

pub has_map : (f : ℕ → ℕ) (n : ℕ) (xs : List ℕ) → has n xs ≡ true → has (f n) (map f xs) ≡ true
has_map f n [] h = absurd (not_has_nil n h)
has_map f n (x ∷ xs) h = at (or_cases (eqb n x) (has n xs) h) (has_map f n xs)
  where
    at : (eqb n x ≡ true) ⊎ (has n xs ≡ true) → (has n xs ≡ true → has (f n) (map f xs) ≡ true) → has (f n) (map f (x ∷ xs)) ≡ true
    at (inl k) ih = or_left _ _ (eq-eqb (f n) (f x) (ap f (eqb-true n x k)))
    at (inr k) ih = or_right _ _ (ih k)

-- above each of them
pub above_from : (k : ℕ) (xs : List ℕ) → ((n : ℕ) → has n xs ≡ true → n < k) → above_all k xs ≡ true
above_from k [] h = refl
above_from k (x ∷ xs) h = and_from _ _ (lt-ltb x k (h x (has_self x xs))) (above_from k xs (λ n e. h n (or_right _ _ e)))

pub above_map : (f : ℕ → ℕ) (k : ℕ) (xs : List ℕ) → ((n : ℕ) → has n xs ≡ true → f n < k) → above_all k (map f xs) ≡ true
above_map f k [] h = refl
above_map f k (x ∷ xs) h = and_from _ _ (lt-ltb (f x) k (h x (has_self x xs))) (above_map f k xs (λ n e. h n (or_right _ _ e)))
