-- The uses of edges in a list, and in an accepted list that goes on.
use Rattle.std.proofs.Common.{◌≡◌, ℕ, Bool, true, false, cond, eqb, ◌⊎◌, List, [], ◌∷◌, ◌++◌, filter, sym, refl, ap, ◌∙◌, subst, inl, inr, append_assoc, append-nil}
use Rattle.std.specs.List.{AllByRecursion as All}
use Rattle.std.proofs.ByRecursion.{All-append}
use Rattle.std.proofs.lemmas.Bool.{eqb-true, or_cases, or_parts, or_from, and_left, and_right}
use Rattle.std.proofs.lemmas.List.Elements.{filter-append}
use Rattle.mesh_stream.specs.declared.event.Point.{Point}
use Rattle.mesh_stream.specs.declared.event.Event.{Event}
use Rattle.mesh_stream.specs.declared.event.Event.TheVariants.{Vertex, Triangle, Finalization}
use Rattle.mesh_stream.specs.Lists.{has}
use Rattle.mesh_stream.specs.Events.{finalized}
use Rattle.mesh_stream.proofs.Having.{kept_no}
use Rattle.mesh_judge.specs.Accepting.{refusal, AcceptedAfter}
use Rattle.mesh_rules.specs.Rewriting.{named}
use Rattle.mesh_rules.proofs.Introducing.{not_named}
use Rattle.mesh_rules.proofs.Naming.{Known}
use Rattle.mesh_edges.specs.declared.edge.Edge.{Edge}
use Rattle.mesh_edges.specs.Bordering.{edge, all_different, uses_of, uses, same_edge, ends_at}

uses-append : (xs ys : List Event) → uses (xs ++ ys) ≡ uses xs ++ uses ys
uses-append [] ys = refl
uses-append (Vertex p n at ∷ xs) ys = uses-append xs ys
uses-append (Triangle p a b c ∷ xs) ys =
    ap (λ (z : List Edge). uses_of p a b c ++ z) (uses-append xs ys) ∙ sym (append_assoc (uses_of p a b c) (uses xs) (uses ys))
uses-append (Finalization p i ∷ xs) ys = uses-append xs ys

-- one event more
module _ (es : List Event) (p : ℕ) where
  pub uses_v : (n : ℕ) (v : Point) → uses (es ++ (Vertex p n v ∷ [])) ≡ uses es
  uses_v n v = uses-append es (Vertex p n v ∷ []) ∙ append-nil (uses es)

  pub uses_t : (a b c : ℕ) → uses (es ++ (Triangle p a b c ∷ [])) ≡ uses es ++ uses_of p a b c
  uses_t a b c = uses-append es (Triangle p a b c ∷ []) ∙ ap (λ (z : List Edge). uses es ++ z) (append-nil (uses_of p a b c))

  pub uses_f : (i : ℕ) → uses (es ++ (Finalization p i ∷ [])) ≡ uses es
  uses_f i = uses-append es (Finalization p i ∷ []) ∙ append-nil (uses es)

-- Both ends are among these numbers.
abbrev pub KnownEnds : List ℕ → Edge → Type 0
KnownEnds ns e = (has e.from ns ≡ true) × (has e.to ns ≡ true)

pub uses_known : (ns : List ℕ) (es : List Event) → All (Known ns) es → All (KnownEnds ns) (uses es)
uses_known ns [] k = tt
uses_known ns (Vertex p n v ∷ es) (a, k) = uses_known ns es k
uses_known ns (Triangle p a b c ∷ es) (t, k) =
    All-append (KnownEnds ns) (uses_of p a b c) (uses es) (at (all_different a b c)) (uses_known ns es k)
  where
    at : (d : Bool) → All (KnownEnds ns) (cond d (edge p a b ∷ edge p b c ∷ edge p c a ∷ []) [])
    at true = ((t.0, t.1), ((t.1, t.2), ((t.2, t.0), tt)))
    at false = tt
uses_known ns (Finalization p i ∷ es) (a, k) = uses_known ns es k

-- an edge at i is not used by what does not name i
module _ (i : ℕ) (e : Edge) (at_i : ends_at i e ≡ true) where
  differs : (n m : ℕ) → n ≡ i → eqb i m ≡ false → eqb n m ≡ false
  differs n m p h = subst (λ z. eqb z m ≡ false) (sym p) h

  not_same : (p a b : ℕ) → eqb i a ≡ false → eqb i b ≡ false → same_edge e (edge p a b) ≡ false
  not_same p a b x y = at (or_cases (eqb e.from i) (eqb e.to i) at_i)
    where
      at : (eqb e.from i ≡ true) ⊎ (eqb e.to i ≡ true) → same_edge e (edge p a b) ≡ false
      at (inl k) =
          let q = eqb-true e.from i k in
          or_from _ _ (and_left (eqb e.from a) (eqb e.to b) (differs e.from a q x))
          (and_left (eqb e.from b) (eqb e.to a) (differs e.from b q y))
      at (inr k) =
          let q = eqb-true e.to i k in
          or_from _ _ (and_right (eqb e.from a) (eqb e.to b) (differs e.to b q y))
          (and_right (eqb e.from b) (eqb e.to a) (differs e.to a q x))

  not_used : (es : List Event) → has i (named es) ≡ false → filter (same_edge e) (uses es) ≡ []
  not_used [] h = refl
  not_used (Vertex p n v ∷ es) h = not_used es h
  not_used (Triangle p a b c ∷ es) h =
      let x = or_parts (eqb i a) _ h in
      let y = or_parts (eqb i b) _ x.1 in
      let z = or_parts (eqb i c) _ y.1 in
      filter-append (same_edge e) (uses_of p a b c) (uses es)
      ∙ ap (λ (z : List Edge). z ++ filter (same_edge e) (uses es)) (at (all_different a b c) x.0 y.0 z.0) ∙ not_used es z.1
    where
      at : (d : Bool) → eqb i a ≡ false → eqb i b ≡ false → eqb i c ≡ false
          → filter (same_edge e) (cond d (edge p a b ∷ edge p b c ∷ edge p c a ∷ []) []) ≡ []
      at true x y z =
          kept_no (same_edge e) (edge p a b) (edge p b c ∷ edge p c a ∷ []) (not_same p a b x y)
          ∙ kept_no (same_edge e) (edge p b c) (edge p c a ∷ []) (not_same p b c y z)
          ∙ kept_no (same_edge e) (edge p c a) [] (not_same p c a z x)
      at false x y z = refl
  not_used (Finalization p j ∷ es) h = not_used es h

-- Once an end is finalized, all uses of an edge are there.
pub same_uses : (limit : ℕ) (xs ys : List Event) → AcceptedAfter (refusal limit) xs ys → (i : ℕ) (e : Edge) → has i (finalized xs) ≡ true
    → ends_at i e ≡ true → filter (same_edge e) (uses (xs ++ ys)) ≡ filter (same_edge e) (uses xs)
same_uses limit xs ys ok i e f h =
    ap (filter (same_edge e)) (uses-append xs ys) ∙ filter-append (same_edge e) (uses xs) (uses ys)
    ∙ ap (λ (z : List Edge). filter (same_edge e) (uses xs) ++ z) (not_used i e h ys (not_named limit i ys xs ok f))
    ∙ append-nil (filter (same_edge e) (uses xs))
