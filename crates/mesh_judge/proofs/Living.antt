-- Live vertices after one event more.
use Rattle.std.proofs.Common.{◌≡◌, ℕ, Bool, true, false, cond, not, ◌&&◌, ◌||◌, eqb, List, [], ◌∷◌, ◌++◌, filter, refl, ap, ◌∙◌, append-nil}
use Rattle.std.proofs.lemmas.List.Elements.{filter-append, filter_agree}
use Rattle.mesh_stream.specs.declared.event.Point.{Point}
use Rattle.mesh_stream.specs.declared.event.Event.{Event}
use Rattle.mesh_stream.specs.declared.event.Event.TheVariants.{Vertex, Triangle, Finalization}
use Rattle.mesh_stream.specs.Lists.{has}
use Rattle.mesh_stream.specs.Events.{introduced, finalized}
use Rattle.mesh_stream.specs.Live.{live, is_live}
use Rattle.mesh_stream.proofs.Having.{kept_yes, kept_no, kept_within}
use Rattle.mesh_stream.proofs.Views.{introduced-++, finalized-++}

-- live: introduced and not finalized
pub live_introduced : (es : List Event) (n : ℕ) → is_live es n ≡ true → has n (introduced es) ≡ true
live_introduced es n h = kept_within (λ m. not (has m (finalized es))) (introduced es) n h

-- live after one event more
pub kept_twice : (p q : ℕ → Bool) (xs : List ℕ) → filter (λ n. q n && p n) xs ≡ filter p (filter q xs)
kept_twice p q [] = refl
kept_twice p q (x ∷ xs) = at (q x) refl (kept_twice p q xs)
  where
    at : (b : Bool) → q x ≡ b → filter (λ n. q n && p n) xs ≡ filter p (filter q xs) → filter (λ n. q n && p n) (x ∷ xs) ≡ filter p (filter q (x ∷ xs))
    at true e ih = rw (kept_yes q x xs e, e) (ap (λ (z : List ℕ). cond (p x) (x ∷ z) z) ih)
    at false e ih = rw (kept_no q x xs e, e) ih

pub live_vertex : (es : List Event) (l n : ℕ) (v : Point) → has n (finalized es) ≡ false → live (es ++ (Vertex l n v ∷ [])) ≡ live es ++ (n ∷ [])
live_vertex es l n v h =
    ap (λ (fs : List ℕ). filter (λ m. not (has m fs)) (introduced (es ++ (Vertex l n v ∷ [])))) (finalized-++ es (Vertex l n v ∷ []) ∙ append-nil (finalized es))
    ∙ ap (filter (λ m. not (has m (finalized es)))) (introduced-++ es (Vertex l n v ∷ []))
    ∙ filter-append (λ m. not (has m (finalized es))) (introduced es) (n ∷ [])
    ∙ ap (λ (z : List ℕ). live es ++ z) (kept_yes (λ m. not (has m (finalized es))) n [] (ap not h))

pub live_triangle : (es : List Event) (l a b c : ℕ) → live (es ++ (Triangle l a b c ∷ [])) ≡ live es
live_triangle es l a b c =
    ap (λ (fs : List ℕ). filter (λ m. not (has m fs)) (introduced (es ++ (Triangle l a b c ∷ [])))) (finalized-++ es (Triangle l a b c ∷ []) ∙ append-nil (finalized es))
    ∙ ap (filter (λ m. not (has m (finalized es)))) (introduced-++ es (Triangle l a b c ∷ []) ∙ append-nil (introduced es))

pub has_pushed : (n i : ℕ) (xs : List ℕ) → not (has n (xs ++ (i ∷ []))) ≡ (not (has n xs) && not (eqb n i))
has_pushed n i [] = at (eqb n i)
  where
    at : (b : Bool) → not (b || false) ≡ not b
    at true = refl
    at false = refl
has_pushed n i (x ∷ xs) = at (eqb n x) (has_pushed n i xs)
  where
    at : (b : Bool) → not (has n (xs ++ (i ∷ []))) ≡ (not (has n xs) && not (eqb n i)) → not (b || has n (xs ++ (i ∷ []))) ≡ (not (b || has n xs) && not (eqb n i))
    at true h = refl
    at false h = h

pub live_final : (es : List Event) (l i : ℕ) → live (es ++ (Finalization l i ∷ [])) ≡ filter (λ n. not (eqb n i)) (live es)
live_final es l i =
    ap (λ (fs : List ℕ). filter (λ m. not (has m fs)) (introduced (es ++ (Finalization l i ∷ [])))) (finalized-++ es (Finalization l i ∷ []))
    ∙ ap (filter (λ m. not (has m (finalized es ++ (i ∷ []))))) (introduced-++ es (Finalization l i ∷ []) ∙ append-nil (introduced es))
    ∙ filter_agree _ _ (λ m. has_pushed m i (finalized es)) (introduced es)
    ∙ kept_twice (λ n. not (eqb n i)) (λ m. not (has m (finalized es))) (introduced es)
