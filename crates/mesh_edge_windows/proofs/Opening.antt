-- The open edges after some uses and finalizations, by their ends and counted; and what one use more makes of them.
use Rattle.std.proofs.Common.{◌≡◌, ℕ, ◌+◌, Bool, true, false, cond, not, ◌&&◌, List, [], ◌∷◌, ◌++◌, length, is_some, Some, None, filter, Option, sym, refl, ap, ◌∙◌, inl, inr, append_assoc, append-nil, length-append}
use Rattle.std.specs.List.{AllByRecursion as All}
use Rattle.std.proofs.Math.Bool.{and_comm}
use Rattle.std.proofs.lemmas.List.Elements.{filter-append}
use Rattle.mesh_stream.specs.Lists.{has}
use Rattle.mesh_stream.proofs.Having.{kept_yes, kept_no}
use Rattle.mesh_edges.specs.declared.edge.Edge.{Edge}
use Rattle.mesh_edges.specs.Bordering.{same_edge, first_uses, is_open}
use Rattle.mesh_edge_windows.specs.declared.open_edge.OpenEdge.{OpenEdge}
use Rattle.mesh_edge_windows.specs.Uses.{used_by}
use Rattle.mesh_edge_windows.specs.Edges.{Edges, joins, newly, use_edge, use_all}
use Rattle.mesh_edge_windows.proofs.Joining.{Ends, joins_cases, same_swap}

-- What is kept of an edge after these uses of it.
abbrev pub kept_of : Option OpenEdge → List Edge → Option OpenEdge
kept_of o [] = o
kept_of o (e ∷ es) = kept_of (Some (used_by o e)) es

-- Neither end is finalized.
abbrev pub both_live : List ℕ → ℕ → ℕ → Bool
both_live gone a b = not (has a gone) && not (has b gone)

abbrev pub edge_in : List Edge → List ℕ → ℕ → ℕ → Option OpenEdge
edge_in us gone a b = cond (both_live gone a b) (kept_of None (filter (joins a b) us)) None

abbrev pub open_in : List Edge → List ℕ → List Edge
open_in us gone = filter (is_open gone) (first_uses us)

-- The open edges after these uses and finalizations.
abbrev pub edges_in : List Edge → List ℕ → Edges
edges_in us gone = record { between = edge_in us gone; count = length (open_in us gone) }

pub edges_same : (t u : Edges) → ((a b : ℕ) → t.between a b ≡ u.between a b) → t.count ≡ u.count → t ≡ u
edges_same t u h k = λ i. record { between = λ a b. h a b i; count = k i }

kept_of-append : (xs ys : List Edge) (o : Option OpenEdge) → kept_of o (xs ++ ys) ≡ kept_of (kept_of o xs) ys
kept_of-append [] ys o = refl
kept_of-append (x ∷ xs) ys o = kept_of-append xs ys (Some (used_by o x))

-- something is kept of what was used
pub kept_some : (xs : List Edge) (u : OpenEdge) → is_some (kept_of (Some u) xs) ≡ true
kept_some [] u = refl
kept_some (x ∷ xs) u = kept_some xs (used_by (Some u) x)

-- both ends of an edge are live, or not, by whichever names they go
pub live_joined : (gone : List ℕ) (a b : ℕ) (e : Edge) → joins a b e ≡ true → is_open gone e ≡ both_live gone a b
live_joined gone a b e h = at (joins_cases a b e h)
  where
    at : Ends a b e → is_open gone e ≡ both_live gone a b
    at (inl p) = ap (λ m. both_live gone m e.to) (sym p.0) ∙ ap (λ m. both_live gone a m) (sym p.1)
    at (inr p) =
        and_comm (not (has e.from gone)) (not (has e.to gone)) ∙ ap (λ m. both_live gone m e.from) (sym p.0)
        ∙ ap (λ m. both_live gone a m) (sym p.1)

-- The first uses after one use more: it is one of them if there was none of this edge before.
abbrev used_in : List Edge → Edge → Bool
used_in us e = is_some (kept_of None (filter (same_edge e) us))

first_uses_push : (us : List Edge) (e : Edge) → first_uses (us ++ (e ∷ [])) ≡ first_uses us ++ cond (used_in us e) [] (e ∷ [])
first_uses_push [] e = refl
first_uses_push (x ∷ us) e = at (same_edge x e) refl (first_uses_push us e)
  where
    other : Edge → Bool
    other f = not (same_edge x f)

    left : (t : Bool) → other e ≡ false → filter other (cond t [] (e ∷ [])) ≡ []
    left true h = refl
    left false h = kept_no other e [] h

    stays : (t : Bool) → other e ≡ true → filter other (cond t [] (e ∷ [])) ≡ cond t [] (e ∷ [])
    stays true h = refl
    stays false h = kept_yes other e [] h

    split : first_uses (us ++ (e ∷ [])) ≡ first_uses us ++ cond (used_in us e) [] (e ∷ [])
        → filter other (first_uses (us ++ (e ∷ []))) ≡ filter other (first_uses us) ++ filter other (cond (used_in us e) [] (e ∷ []))
    split ih = ap (filter other) ih ∙ filter-append other (first_uses us) (cond (used_in us e) [] (e ∷ []))

    at : (b : Bool) → same_edge x e ≡ b → first_uses (us ++ (e ∷ [])) ≡ first_uses us ++ cond (used_in us e) [] (e ∷ [])
        → x ∷ filter other (first_uses (us ++ (e ∷ []))) ≡ x ∷ (filter other (first_uses us) ++ cond (used_in (x ∷ us) e) [] (e ∷ []))
    at true h ih =
        let there : used_in (x ∷ us) e ≡ true =
        ap (λ (z : List Edge). is_some (kept_of None z)) (kept_yes (same_edge e) x us (same_swap e x ∙ h))
        ∙ kept_some (filter (same_edge e) us) (used_by None x) in
        ap (λ (z : List Edge). x ∷ z)
        (split ih ∙ ap (λ (z : List Edge). filter other (first_uses us) ++ z)
        (left (used_in us e) (ap not h) ∙ sym (ap (λ t. cond t [] (e ∷ [])) there)))
    at false h ih =
        ap (λ (z : List Edge). x ∷ z)
        (split ih ∙ ap (λ (z : List Edge). filter other (first_uses us) ++ z)
        (stays (used_in us e) (ap not h)
        ∙ sym (ap (λ (z : List Edge). cond (is_some (kept_of None z)) [] (e ∷ [])) (kept_no (same_edge e) x us (same_swap e x ∙ h)))))

-- One use more of an edge whose ends are live.
module _ (us : List Edge) (gone : List ℕ) (e : Edge) (live : is_open gone e ≡ true) where
  edge_more : (a b : ℕ)
      → edge_in (us ++ (e ∷ [])) gone a b ≡ cond (joins a b e) (Some (used_by (edge_in us gone a b) e)) (edge_in us gone a b)
  edge_more a b = at (joins a b e) refl
    where
      at : (t : Bool) → joins a b e ≡ t
          → edge_in (us ++ (e ∷ [])) gone a b ≡ cond t (Some (used_by (edge_in us gone a b) e)) (edge_in us gone a b)
      at true h =
          let l : both_live gone a b ≡ true = sym (live_joined gone a b e h) ∙ live in
          ap (λ z. cond z (kept_of None (filter (joins a b) (us ++ (e ∷ [])))) None) l
          ∙ ap (kept_of None)
          (filter-append (joins a b) us (e ∷ []) ∙ ap (λ (z : List Edge). filter (joins a b) us ++ z) (kept_yes (joins a b) e [] h))
          ∙ kept_of-append (filter (joins a b) us) (e ∷ []) None
          ∙ sym (ap (λ z. Some (used_by (cond z (kept_of None (filter (joins a b) us)) None) e)) l)
      at false h =
          ap (λ (z : List Edge). cond (both_live gone a b) (kept_of None z) None)
          (filter-append (joins a b) us (e ∷ []) ∙ ap (λ (z : List Edge). filter (joins a b) us ++ z) (kept_no (joins a b) e [] h)
          ∙ append-nil (filter (joins a b) us))

  count_more : length (open_in (us ++ (e ∷ [])) gone) ≡ length (open_in us gone) + newly (edges_in us gone) e.from e.to
  count_more =
      ap (λ (z : List Edge). length (filter (is_open gone) z)) (first_uses_push us e)
      ∙ ap length (filter-append (is_open gone) (first_uses us) (cond (used_in us e) [] (e ∷ [])))
      ∙ length-append (open_in us gone) (filter (is_open gone) (cond (used_in us e) [] (e ∷ [])))
      ∙ ap (λ n. length (open_in us gone) + n)
      (one (used_in us e) ∙ ap (λ l. cond (is_some (cond l (kept_of None (filter (same_edge e) us)) None)) 0 1) (sym live))
    where
      one : (t : Bool) → length (filter (is_open gone) (cond t [] (e ∷ []))) ≡ cond t 0 1
      one true = refl
      one false = ap length (kept_yes (is_open gone) e [] live)

  used_more : edges_in (us ++ (e ∷ [])) gone ≡ use_edge (edges_in us gone) e
  used_more = edges_same _ _ edge_more count_more

pub used_all : (vs us : List Edge) (gone : List ℕ) → All (λ e. is_open gone e ≡ true) vs
    → edges_in (us ++ vs) gone ≡ use_all (edges_in us gone) vs
used_all [] us gone h = ap (λ (z : List Edge). edges_in z gone) (append-nil us)
used_all (v ∷ vs) us gone (a, h) =
    ap (λ (z : List Edge). edges_in z gone) (sym (append_assoc us (v ∷ []) vs)) ∙ used_all vs (us ++ (v ∷ [])) gone h
    ∙ ap (λ (t : Edges). use_all t vs) (used_more us gone v a)
