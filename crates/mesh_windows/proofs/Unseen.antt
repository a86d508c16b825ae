-- Those of some numbers that were not seen before.
use Rattle.std.proofs.Common.{◌≡◌, ℕ, Bool, true, false, cond, ◌||◌, eqb, List, [], ◌∷◌, sym, refl, ap, ◌∙◌, subst, inl, inr}
use Rattle.std.proofs.lemmas.Bool.{both_ways, eqb-true, or_cases, or_left, or_right}
use Rattle.mesh_stream.specs.Lists.{has}
use Rattle.mesh_rules.specs.Rewriting.{unseen}

or_again : (s b t : Bool) → s ≡ true → (s || t) ≡ (s || (b || t))
or_again true b t h = refl
or_again false b t h = absurd (both_ways false refl h)

or_step : (b s x y : Bool) → ((b || s) || x) ≡ ((b || s) || y) → (s || (b || x)) ≡ (s || (b || y))
or_step true s x y h = refl
or_step false s x y h = h

-- only what is in the seen ones counts, not their order
pub unseen_same : (ns s t : List ℕ) → ((n : ℕ) → has n s ≡ has n t) → unseen s ns ≡ unseen t ns
unseen_same [] s t h = refl
unseen_same (n ∷ ns) s t h =
    ap (λ b. cond b (unseen s ns) (n ∷ unseen (n ∷ s) ns)) (h n)
    ∙ ap (λ (z : List ℕ). cond (has n t) z (n ∷ unseen (n ∷ s) ns)) (unseen_same ns s t h)
    ∙ ap (λ (z : List ℕ). cond (has n t) (unseen t ns) (n ∷ z)) (unseen_same ns (n ∷ s) (n ∷ t) (λ m. ap (λ b. eqb m n || b) (h m)))

-- the seen and the unseen ones together are all of them
pub has_unseen : (m : ℕ) (ns s : List ℕ) → (has m s || has m (unseen s ns)) ≡ (has m s || has m ns)
has_unseen m [] s = refl
has_unseen m (n ∷ ns) s = at (has n s) refl (has_unseen m ns s) (has_unseen m ns (n ∷ s))
  where
    again : has n s ≡ true → (b : Bool) → eqb m n ≡ b → (has m s || has m ns) ≡ (has m s || (b || has m ns))
    again k true e = or_again (has m s) true (has m ns) (subst (λ z. has z s ≡ true) (sym (eqb-true m n e)) k)
    again k false e = refl

    at : (b : Bool) → has n s ≡ b → (has m s || has m (unseen s ns)) ≡ (has m s || has m ns)
        → (has m (n ∷ s) || has m (unseen (n ∷ s) ns)) ≡ (has m (n ∷ s) || has m ns)
        → (has m s || has m (cond b (unseen s ns) (n ∷ unseen (n ∷ s) ns))) ≡ (has m s || has m (n ∷ ns))
    at true k x y = x ∙ again k (eqb m n) refl
    at false k x y = or_step (eqb m n) (has m s) _ _ y

pub unseen_within : (m : ℕ) (ns s : List ℕ) → has m (unseen s ns) ≡ true → has m ns ≡ true
unseen_within m [] s h = h
unseen_within m (n ∷ ns) s h = at (has n s) h (unseen_within m ns s) (unseen_within m ns (n ∷ s))
  where
    at : (b : Bool) → has m (cond b (unseen s ns) (n ∷ unseen (n ∷ s) ns)) ≡ true → (has m (unseen s ns) ≡ true → has m ns ≡ true)
        → (has m (unseen (n ∷ s) ns) ≡ true → has m ns ≡ true) → (eqb m n || has m ns) ≡ true
    at true k x y = or_right _ _ (x k)
    at false k x y = elim (or_cases (eqb m n) _ k) [ inl e ↦ or_left _ _ e | inr e ↦ or_right _ _ (y e) ]
