-- What one event more adds to the totals of an accepted list.
use Rattle.std.proofs.Common.{◌≡◌, ℕ, max, true, List, [], ◌∷◌, ◌++◌, length, ℤ, ◌+ℤ◌, None, sym, refl, ap, ◌∙◌, subst, append_assoc, append-nil, arith}
use lib.IntN.{+ℤ_idl, +ℤ_idr, +ℤ_assoc}
use Rattle.std.specs.List.{AllByRecursion as All}
use Rattle.mesh_stream.specs.declared.event.Point.{Point}
use Rattle.mesh_stream.specs.declared.event.Event.{Event}
use Rattle.mesh_stream.specs.declared.event.Event.TheVariants.{Vertex, Triangle, Finalization}
use Rattle.mesh_stream.specs.Lists.{has}
use Rattle.mesh_stream.specs.Events.{introduced, point}
use Rattle.mesh_stream.specs.Live.{live, is_live, width, width_after}
use Rattle.mesh_stream.proofs.Having.{has_left}
use Rattle.mesh_stream.proofs.Views.{introduced-++}
use Rattle.mesh_judge.specs.Accepting.{refusal, Accepted, AcceptedAfter}
use Rattle.mesh_judge.proofs.Refusing.{triangle_ok}
use Rattle.mesh_judge.proofs.Living.{live_introduced}
use Rattle.mesh_judge.proofs.Knowing.{point_stays}
use Rattle.mesh_report.specs.Areas.{twice_area, area_by, area}

width_more : (es before : List Event) (e : Event) → width_after before (es ++ (e ∷ [])) ≡ max (width_after before es) (length (live ((before ++ es) ++ (e ∷ []))))
width_more [] before e = flip (length (live (before ++ (e ∷ [])))) ∙ ap (λ (z : List Event). max 0 (length (live (z ++ (e ∷ []))))) (sym (append-nil before))
  where
    flip : (n : ℕ) → max n 0 ≡ max 0 n
    flip n = omega arith
width_more (x ∷ es) before e =
    ap (λ k. max (length (live (before ++ (x ∷ [])))) k) (width_more es (before ++ (x ∷ [])) e ∙ ap (λ (z : List Event). max (width_after (before ++ (x ∷ [])) es) (length (live (z ++ (e ∷ []))))) (append_assoc before (x ∷ []) es))
    ∙ regroup (length (live (before ++ (x ∷ [])))) (width_after (before ++ (x ∷ [])) es) (length (live ((before ++ (x ∷ es)) ++ (e ∷ []))))
  where
    regroup : (a b c : ℕ) → max a (max b c) ≡ max (max a b) c
    regroup a b c = omega arith

pub width_step : (es : List Event) (e : Event) → width (es ++ (e ∷ [])) ≡ max (width es) (length (live (es ++ (e ∷ []))))
width_step es e = width_more es [] e

area-++ : (at : ℕ → Point) (xs ys : List Event) → area_by at (xs ++ ys) ≡ area_by at xs +ℤ area_by at ys
area-++ at [] ys = sym (+ℤ_idl (area_by at ys))
area-++ at (Vertex l n v ∷ xs) ys = area-++ at xs ys
area-++ at (Triangle l a b c ∷ xs) ys = ap (λ (z : ℤ). twice_area (at a) (at b) (at c) +ℤ z) (area-++ at xs ys) ∙ sym (+ℤ_assoc (twice_area (at a) (at b) (at c)) (area_by at xs) (area_by at ys))
area-++ at (Finalization l i ∷ xs) ys = area-++ at xs ys

-- The corners of a triangle stand among these numbers.
abbrev Among : List ℕ → Event → Type 0
Among ns (Vertex l n v) = Unit {0}
Among ns (Triangle l a b c) = (has a ns ≡ true) × (has b ns ≡ true) × (has c ns ≡ true)
Among ns (Finalization l i) = Unit {0}

all_among : (limit : ℕ) (es before : List Event) → AcceptedAfter (refusal limit) before es → All (Among (introduced (before ++ es))) es
all_among limit [] before h = tt
all_among limit (e ∷ es) before (a, h) = (here e a, subst (λ (z : List Event). All (Among (introduced z)) es) (append_assoc before (e ∷ []) es) (all_among limit es (before ++ (e ∷ [])) h))
  where
    old : (x : Event) (n : ℕ) → is_live before n ≡ true → has n (introduced (before ++ (x ∷ es))) ≡ true
    old x n k = ap (has n) (introduced-++ before (x ∷ es)) ∙ has_left n (introduced before) (introduced (x ∷ es)) (live_introduced before n k)

    here : (x : Event) → refusal limit before x ≡ None → Among (introduced (before ++ (x ∷ es))) x
    here (Vertex l n v) k = tt
    here (Triangle l a b c) k =
        let t = triangle_ok limit before l a b c k in
        (old (Triangle l a b c) a t.first, old (Triangle l a b c) b t.second, old (Triangle l a b c) c t.third)
    here (Finalization l i) k = tt

twice_areas : (a b c d e f : Point) → a ≡ d → b ≡ e → c ≡ f → twice_area a b c ≡ twice_area d e f
twice_areas a b c d e f p q r = λ i. twice_area (p i) (q i) (r i)

area_agree : (at bt : ℕ → Point) (ns : List ℕ) → ((n : ℕ) → has n ns ≡ true → at n ≡ bt n) → (es : List Event) → All (Among ns) es → area_by at es ≡ area_by bt es
area_agree at bt ns h [] k = refl
area_agree at bt ns h (Vertex l n v ∷ es) (a, k) = area_agree at bt ns h es k
area_agree at bt ns h (Triangle l a b c ∷ es) (t, k) = λ i. twice_areas _ _ _ _ _ _ (h a t.0) (h b t.1) (h c t.2) i +ℤ area_agree at bt ns h es k i
area_agree at bt ns h (Finalization l i ∷ es) (a, k) = area_agree at bt ns h es k

module _ (limit : ℕ) (es : List Event) (ok : Accepted (refusal limit) es) where
  -- The area of what follows is added, coordinates being looked up in the whole.
  area_more : (ys : List Event) → area (es ++ ys) ≡ area es +ℤ area_by (point (es ++ ys)) ys
  area_more ys =
      area-++ (point (es ++ ys)) es ys
      ∙ ap (λ (z : ℤ). z +ℤ area_by (point (es ++ ys)) ys) (area_agree (point (es ++ ys)) (point es) (introduced es) (λ n k. point_stays es ys n k) es (all_among limit es [] ok))

  pub area_vertex : (p n : ℕ) (v : Point) → area (es ++ (Vertex p n v ∷ [])) ≡ area es
  area_vertex p n v = area_more (Vertex p n v ∷ []) ∙ +ℤ_idr (area es)

  pub area_final : (p i : ℕ) → area (es ++ (Finalization p i ∷ [])) ≡ area es
  area_final p i = area_more (Finalization p i ∷ []) ∙ +ℤ_idr (area es)

  pub area_triangle : (p a b c : ℕ) → refusal limit es (Triangle p a b c) ≡ None → area (es ++ (Triangle p a b c ∷ [])) ≡ area es +ℤ twice_area (point es a) (point es b) (point es c)
  area_triangle p a b c h =
      let t = triangle_ok limit es p a b c h in
      area_more (Triangle p a b c ∷ [])
      ∙ ap (λ (z : ℤ). area es +ℤ z) (+ℤ_idr _ ∙ twice_areas _ _ _ _ _ _ (stays a t.first) (stays b t.second) (stays c t.third))
    where
      stays : (n : ℕ) → is_live es n ≡ true → point (es ++ (Triangle p a b c ∷ [])) n ≡ point es n
      stays n l = point_stays es (Triangle p a b c ∷ []) n (live_introduced es n l)
