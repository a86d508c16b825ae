-- Different numbers, counted.
use Rattle.std.proofs.Common.{◌≡◌, ℕ, suc, ◌≤◌, Bool, true, false, not, ◌||◌, eqb, List, [], ◌∷◌, length, filter, sym, refl, ap, ◌∙◌, subst, arith}
use Rattle.std.proofs.lemmas.Bool.{eqb-true, or_right, both_ways, false_from_ne_true}
use Rattle.mesh_stream.specs.Lists.{has}
use Rattle.mesh_stream.proofs.Having.{kept_yes, kept_no, Within, has_self, not_has_nil}
use Rattle.mesh_stream.proofs.Distinct.{Distinct, eqb_comm}
use Rattle.mesh_rules.proofs.Having.{kept_len, has_kept}

abbrev other : ℕ → ℕ → Bool
other n m = not (eqb m n)

one_less : (n : ℕ) (ys : List ℕ) → has n ys ≡ true → suc (length (filter (other n) ys)) ≤ length ys
one_less n [] h = absurd (not_has_nil n h)
one_less n (y ∷ ys) h = at (eqb y n) refl (one_less n ys)
  where
    at : (b : Bool) → eqb y n ≡ b → (has n ys ≡ true → suc (length (filter (other n) ys)) ≤ length ys)
        → suc (length (filter (other n) (y ∷ ys))) ≤ suc (length ys)
    at true e ih = let l = kept_len (other n) ys in rw (kept_no (other n) y ys (ap not e)) (omega arith)
    at false e ih =
        let k : has n ys ≡ true = sym (ap (λ b. b || has n ys) (eqb_comm y n e)) ∙ h in
        let l = ih k in rw (kept_yes (other n) y ys (ap not e)) (omega arith)

-- different numbers that all stand in a list are no more than it has
pub no_more : (xs ys : List ℕ) → Distinct xs → Within xs ys → length xs ≤ length ys
no_more [] ys d w = omega arith
no_more (x ∷ xs) ys (a, d) w =
    let l = one_less x ys (w x (has_self x xs)) in
    let m = no_more xs (filter (other x) ys) d (λ n h. has_kept (other x) n (ap not (differs n h)) ys ∙ w n (or_right _ _ h)) in
    omega arith
  where
    differs : (n : ℕ) → has n xs ≡ true → eqb n x ≡ false
    differs n h = false_from_ne_true _ (λ e. both_ways (has x xs) a (subst (λ z. has z xs ≡ true) (eqb-true n x e) h))
