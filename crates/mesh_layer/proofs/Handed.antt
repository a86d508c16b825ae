-- What holds of every beginning of an accepted list, and of an accepted list that leaves no vertex live.
use Rattle.std.proofs.Common.{◌≡◌, ℕ, suc, ◌≤◌, Bool, true, false, not, eqb, List, [], ◌∷◌, ◌++◌, length, filter, None, sym, refl, ap, ◌∙◌, subst, inl, inr, append_assoc, append-nil, arith}
use Rattle.std.proofs.lemmas.Bool.{both_ways, eqb-true, or_cases, or_parts, and_from}
use Rattle.mesh_stream.specs.declared.event.Event.{Event}
use Rattle.mesh_stream.specs.declared.event.Event.TheVariants.{Vertex, Triangle, Finalization}
use Rattle.mesh_stream.specs.Lists.{has}
use Rattle.mesh_stream.specs.Events.{introduced, finalized}
use Rattle.mesh_stream.specs.Live.{live, is_live, width_after}
use Rattle.mesh_stream.proofs.Having.{has_filter, kept_yes, kept_no}
use Rattle.mesh_stream.proofs.Views.{finalized_v, finalized_t, finalized_f}
use Rattle.mesh_stream.proofs.Distinct.{Distinct, distinct_push}
use Rattle.mesh_judge.specs.Accepting.{refusal, Accepted, AcceptedAfter}
use Rattle.mesh_judge.proofs.Refusing.{triangle_ok, final_ok}
use Rattle.mesh_judge.proofs.Living.{live_introduced}
use Rattle.mesh_rules.proofs.Living.{live_not_final}
use Rattle.mesh_rules.proofs.Beginnings.{accepted_parts}
use Rattle.mesh_layer.specs.Law.{WellFormed, ClosedOff}

corner_live : (es : List Event) (a b c n : ℕ) → is_live es a ≡ true → is_live es b ≡ true → is_live es c ≡ true
    → has n (a ∷ b ∷ c ∷ []) ≡ true → is_live es n ≡ true
corner_live es a b c n x y z h = elim (or_cases _ _ h) [
  | inl e ↦ ap (is_live es) (eqb-true n a e) ∙ x
  | inr k ↦ elim (or_cases _ _ k) [
    | inl e ↦ ap (is_live es) (eqb-true n b e) ∙ y
    | inr l ↦ elim (or_cases _ _ l) [
      | inl e ↦ ap (is_live es) (eqb-true n c e) ∙ z
      | inr f ↦ absurd (both_ways false refl f)
    ]
  ]
]

pub well_formed : (limit : ℕ) (es : List Event) → Accepted (refusal limit) es → WellFormed es
well_formed limit es h before after p a b c n e k =
    let parts = accepted_parts (refusal limit) before (Triangle p a b c ∷ after) [] (subst (Accepted (refusal limit)) e h) in
    let ok = triangle_ok limit before p a b c parts.1.0 in
    let l = corner_live before a b c n ok.first ok.second ok.third k in
    (live_introduced before n l, live_not_final before n l)

-- No vertex is finalized twice.
distinct_after : (limit : ℕ) (es before : List Event) → Distinct (finalized before) → AcceptedAfter (refusal limit) before es
    → Distinct (finalized (before ++ es))
distinct_after limit [] before d h = subst (λ (z : List Event). Distinct (finalized z)) (sym (append-nil before)) d
distinct_after limit (e ∷ es) before d (a, h) =
    subst (λ (z : List Event). Distinct (finalized z)) (append_assoc before (e ∷ []) es) (distinct_after limit es (before ++ (e ∷ [])) (step e a) h)
  where
    step : (x : Event) → refusal limit before x ≡ None → Distinct (finalized (before ++ (x ∷ [])))
    step (Vertex l n v) r = subst Distinct (sym (finalized_v before l n v)) d
    step (Triangle l i j k) r = subst Distinct (sym (finalized_t before l i j k)) d
    step (Finalization l i) r =
        subst Distinct (sym (finalized_f before l i)) (distinct_push (finalized before) i d (live_not_final before i (final_ok limit before l i r)))

none_counted : (n : ℕ) (xs : List ℕ) → has n xs ≡ false → length (filter (λ m. eqb n m) xs) ≡ 0
none_counted n [] h = refl
none_counted n (x ∷ xs) h = let k = or_parts (eqb n x) (has n xs) h in ap length (kept_no (λ m. eqb n m) x xs k.0) ∙ none_counted n xs k.1

counted_once : (n : ℕ) (xs : List ℕ) → Distinct xs → has n xs ≡ true → length (filter (λ m. eqb n m) xs) ≡ 1
counted_once n [] d h = absurd (both_ways false refl h)
counted_once n (x ∷ xs) (a, d) h = at (eqb n x) refl (counted_once n xs d)
  where
    at : (b : Bool) → eqb n x ≡ b → (has n xs ≡ true → length (filter (λ m. eqb n m) xs) ≡ 1) → length (filter (λ m. eqb n m) (x ∷ xs)) ≡ 1
    at true e ih = ap length (kept_yes (λ m. eqb n m) x xs e) ∙ ap suc (none_counted n xs (ap (λ z. has z xs) (eqb-true n x e) ∙ a))
    at false e ih =
        ap length (kept_no (λ m. eqb n m) x xs e)
        ∙ ih (elim (or_cases (eqb n x) (has n xs) h) [ inl t ↦ absurd (both_ways (eqb n x) e t) | inr k ↦ k ])

pub closed_off : (limit : ℕ) (es : List Event) → Accepted (refusal limit) es → live es ≡ [] → ClosedOff es
closed_off limit es h l n i = counted_once n (finalized es) (distinct_after limit es [] tt h) (at (has n (finalized es)) refl)
  where
    at : (b : Bool) → has n (finalized es) ≡ b → has n (finalized es) ≡ true
    at true e = e
    at false e =
        absurd (both_ways false refl (ap (has n) (sym l) ∙ has_filter (λ m. not (has m (finalized es))) n (introduced es) ∙ and_from _ _ (ap not e) i))

-- A beginning is no wider than the list.
pub width_front : (xs ys before : List Event) → width_after before xs ≤ width_after before (xs ++ ys)
width_front [] ys before = omega arith
width_front (x ∷ xs) ys before = let k = width_front xs ys (before ++ (x ∷ [])) in omega arith
