-- Lists filtered in turn, and lists made of a list for each element.
use Rattle.std.proofs.Common.{◌≡◌, ◌+◌, Bool, true, false, cond, ◌&&◌, List, [], ◌∷◌, ◌++◌, length, filter, flat_map, sym, refl, ap, ◌∙◌, length-append}
use Rattle.std.proofs.Math.Bool.{and-true}
use Rattle.std.proofs.lemmas.Bool.{and_right}
use Rattle.std.proofs.lemmas.Grind.{flat_map-append}
use Rattle.std.proofs.lemmas.List.Elements.{filter_agree}
use Rattle.mesh_stream.proofs.Having.{kept_yes, kept_no}

implied : (q p : Bool) → (p ≡ true → q ≡ true) → (q && p) ≡ p
implied q true h = ap (λ z. z && true) (h refl)
implied q false h = and_right q false refl

module _ {X : Type 0} where
  pub kept_twice : (p q : X → Bool) (xs : List X) → filter (λ x. q x && p x) xs ≡ filter p (filter q xs)
  kept_twice p q [] = refl
  kept_twice p q (x ∷ xs) = at (q x) refl (kept_twice p q xs)
    where
      at : (b : Bool) → q x ≡ b → filter (λ y. q y && p y) xs ≡ filter p (filter q xs)
          → filter (λ y. q y && p y) (x ∷ xs) ≡ filter p (filter q (x ∷ xs))
      at true e ih = rw (kept_yes q x xs e, e) (ap (λ (z : List X). cond (p x) (x ∷ z) z) ih)
      at false e ih = rw (kept_no q x xs e, e) ih

  pub kept_none : (p : X → Bool) (xs : List X) → ((x : X) → p x ≡ false) → filter p xs ≡ []
  kept_none p [] h = refl
  kept_none p (x ∷ xs) h = kept_no p x xs (h x) ∙ kept_none p xs h

  -- what passes the one passes the other
  pub kept_inside : (p q : X → Bool) (xs : List X) → ((x : X) → p x ≡ true → q x ≡ true) → filter p (filter q xs) ≡ filter p xs
  kept_inside p q xs h = sym (kept_twice p q xs) ∙ filter_agree _ _ (λ x. implied (q x) (p x) (h x)) xs

  pub kept_if : (p : X → Bool) (b : Bool) (xs : List X) → filter (λ x. p x && b) xs ≡ cond b (filter p xs) []
  kept_if p true xs = filter_agree _ _ (λ x. and-true (p x)) xs
  kept_if p false xs = kept_none _ xs (λ x. and_right (p x) false refl)

module _ {A B : Type 0} where
  pub flat_map_agree : (f g : A → List B) → ((x : A) → f x ≡ g x) → (xs : List A) → flat_map f xs ≡ flat_map g xs
  flat_map_agree f g h [] = refl
  flat_map_agree f g h (x ∷ xs) =
      ap (λ (z : List B). z ++ flat_map f xs) (h x) ∙ ap (λ (z : List B). g x ++ z) (flat_map_agree f g h xs)

  pub flat_map_none : (xs : List A) → flat_map {A = B} (λ (x : A). []) xs ≡ []
  flat_map_none [] = refl
  flat_map_none (x ∷ xs) = flat_map_none xs

module _ {A B C : Type 0} where
  pub flat_map_twice : (g : B → List C) (f : A → List B) (xs : List A) → flat_map g (flat_map f xs) ≡ flat_map (λ x. flat_map g (f x)) xs
  flat_map_twice g f [] = refl
  flat_map_twice g f (x ∷ xs) =
      flat_map-append g (f x) (flat_map f xs) ∙ ap (λ (z : List C). flat_map g (f x) ++ z) (flat_map_twice g f xs)

  pub flat_map_lengths : (f : A → List B) (g : A → List C) → ((x : A) → length (f x) ≡ length (g x)) → (xs : List A)
      → length (flat_map f xs) ≡ length (flat_map g xs)
  flat_map_lengths f g h [] = refl
  flat_map_lengths f g h (x ∷ xs) =
      length-append (f x) (flat_map f xs) ∙ ap (λ k. k + length (flat_map f xs)) (h x)
      ∙ ap (λ k. length (g x) + k) (flat_map_lengths f g h xs) ∙ sym (length-append (g x) (flat_map g xs))
