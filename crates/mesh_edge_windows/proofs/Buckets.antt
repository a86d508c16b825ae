-- Sorting edges by rising other end is listing them for each other end in turn.
use Rattle.std.proofs.Common.{◌≡◌, ℕ, zero, suc, ◌+◌, ◌<◌, ◌≤◌, Bool, true, false, cond, eqb, leb, ◌⊎◌, List, [], ◌∷◌, ◌++◌, length, filter, flat_map, sym, refl, ap, ◌∙◌, inl, inr, arith}
use Rattle.std.specs.List.{range_with_len, AllByRecursion as All}
use Rattle.std.proofs.ByRecursion.{All-append, All-weaker, kept_by_passes}
use Rattle.std.proofs.lemmas.Bool.{le-leb, lt-leb, eqb-true, eq-eqb, ne_eqb, cases_eq}
use Rattle.mesh_edges.specs.declared.edge.Edge.{Edge}
use Rattle.mesh_edges.specs.Bordering.{other_end, insert, rising}
use Rattle.mesh_edge_windows.proofs.Listing.{flat_map_none}

module _ (i : ℕ) where
  insert_front : (e : Edge) (xs : List Edge) → All (λ x. other_end i e ≤ other_end i x) xs → insert i e xs ≡ e ∷ xs
  insert_front e [] h = refl
  insert_front e (x ∷ xs) (a, h) = ap (λ b. cond b (e ∷ x ∷ xs) (x ∷ insert i e xs)) (le-leb (other_end i e) (other_end i x) a)

  insert_past : (e : Edge) (xs ys : List Edge) → All (λ x. other_end i x < other_end i e) xs → insert i e (xs ++ ys) ≡ xs ++ insert i e ys
  insert_past e [] ys h = refl
  insert_past e (x ∷ xs) ys (a, h) =
      ap (λ b. cond b (e ∷ x ∷ (xs ++ ys)) (x ∷ insert i e (xs ++ ys))) (lt-leb (other_end i e) (other_end i x) a)
      ∙ ap (λ (z : List Edge). x ∷ z) (insert_past e xs ys h)

  -- a list for each other end
  module _ (f : ℕ → List Edge) (sorted : (j : ℕ) → All (λ x. other_end i x ≡ j) (f j)) where
    all_above : (n s m : ℕ) → m ≤ s → All (λ x. m ≤ other_end i x) (flat_map f (range_with_len s n))
    all_above zero s m h = tt
    all_above (suc n) s m h =
        All-append (λ x. m ≤ other_end i x) (f s) (flat_map f (range_with_len (s + 1) n))
        (All-weaker (λ x. other_end i x ≡ s) (λ x. m ≤ other_end i x) (λ x e. omega arith) (f s) (sorted s))
        (all_above n (s + 1) m (omega arith))

    -- with one edge more, in front of those with its other end
    abbrev put_in : Edge → ℕ → List Edge
    put_in e j = cond (eqb (other_end i e) j) (e ∷ f j) (f j)

    not_below : (e : Edge) (n s : ℕ) → other_end i e < s → flat_map (put_in e) (range_with_len s n) ≡ flat_map f (range_with_len s n)
    not_below e zero s h = refl
    not_below e (suc n) s h =
        ap (λ b. cond b (e ∷ f s) (f s) ++ flat_map (put_in e) (range_with_len (s + 1) n)) (ne_eqb (other_end i e) s (λ p. omega arith))
        ∙ ap (λ (z : List Edge). f s ++ z) (not_below e n (s + 1) (omega arith))

    insert_bucket : (e : Edge) (n s : ℕ) → s ≤ other_end i e → other_end i e < s + n
        → insert i e (flat_map f (range_with_len s n)) ≡ flat_map (put_in e) (range_with_len s n)
    insert_bucket e zero s l h = absurd (omega arith)
    insert_bucket e (suc n) s l h = at (cases_eq (other_end i e) s) (λ m. insert_bucket e n (s + 1) m (omega arith))
      where
        rest : List Edge
        rest = flat_map f (range_with_len (s + 1) n)

        at : (other_end i e ≡ s) ⊎ (other_end i e ≡ s → ⊥)
            → (s + 1 ≤ other_end i e → insert i e rest ≡ flat_map (put_in e) (range_with_len (s + 1) n))
            → insert i e (f s ++ rest) ≡ put_in e s ++ flat_map (put_in e) (range_with_len (s + 1) n)
        at (inl p) ih =
            insert_front e (f s ++ rest) (all_above (suc n) s (other_end i e) (omega arith))
            ∙ ap (λ (z : List Edge). (e ∷ f s) ++ z) (sym (not_below e n (s + 1) (omega arith)))
            ∙ ap (λ b. cond b (e ∷ f s) (f s) ++ flat_map (put_in e) (range_with_len (s + 1) n)) (sym (eq-eqb (other_end i e) s p))
        at (inr p) ih =
            insert_past e (f s) rest (All-weaker (λ x. other_end i x ≡ s) (λ x. other_end i x < other_end i e) less (f s) (sorted s))
            ∙ ap (λ (z : List Edge). f s ++ z) (ih more)
            ∙ ap (λ b. cond b (e ∷ f s) (f s) ++ flat_map (put_in e) (range_with_len (s + 1) n)) (sym (ne_eqb (other_end i e) s p))
          where
            more : s + 1 ≤ other_end i e
            more = omega arith

            less : (x : Edge) → other_end i x ≡ s → other_end i x < other_end i e
            less x q = omega (arith, more)

  -- listed for each other end in turn, in a range that has them all
  pub rising_is : (s n : ℕ) (es : List Edge) → All (λ e. (s ≤ other_end i e) × (other_end i e < s + n)) es
      → rising i es ≡ flat_map (λ j. filter (λ e. eqb (other_end i e) j) es) (range_with_len s n)
  rising_is s n [] h = sym (flat_map_none (range_with_len s n))
  rising_is s n (e ∷ es) (a, h) =
      ap (insert i e) (rising_is s n es h)
      ∙ insert_bucket (λ j. filter (λ x. eqb (other_end i x) j) es)
      (λ j. All-weaker (λ x. eqb (other_end i x) j ≡ true) (λ x. other_end i x ≡ j) (λ x q. eqb-true (other_end i x) j q)
      (filter (λ x. eqb (other_end i x) j) es) (kept_by_passes (λ x. eqb (other_end i x) j) es))
      e n s a.0 a.1

  insert_length : (e : Edge) (xs : List Edge) → length (insert i e xs) ≡ suc (length xs)
  insert_length e [] = refl
  insert_length e (x ∷ xs) = at (leb (other_end i e) (other_end i x)) (insert_length e xs)
    where
      at : (b : Bool) → length (insert i e xs) ≡ suc (length xs) → length (cond b (e ∷ x ∷ xs) (x ∷ insert i e xs)) ≡ suc (suc (length xs))
      at true ih = refl
      at false ih = ap suc ih

  pub rising_length : (es : List Edge) → length (rising i es) ≡ length es
  rising_length [] = refl
  rising_length (e ∷ es) = insert_length e (rising i es) ∙ ap suc (rising_length es)
