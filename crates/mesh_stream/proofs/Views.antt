-- The views of a list that is joined of two.
use Rattle.std.proofs.Common.{◌≡◌, ℕ, suc, ◌+◌, List, [], ◌∷◌, ◌++◌, sym, refl, ap, ◌∙◌, append-nil, add-zero, suc-add, zero-add}
use Rattle.mesh_stream.specs.declared.event.Point.{Point}
use Rattle.mesh_stream.specs.declared.event.Event.{Event}
use Rattle.mesh_stream.specs.declared.event.Event.TheVariants.{Vertex, Triangle, Finalization}
use Rattle.mesh_stream.specs.Events.{introduced, finalized, triangles}

pub introduced-++ : (xs ys : List Event) → introduced (xs ++ ys) ≡ introduced xs ++ introduced ys
introduced-++ [] ys = refl
introduced-++ (Vertex p n at ∷ xs) ys = ap (λ (z : List ℕ). n ∷ z) (introduced-++ xs ys)
introduced-++ (Triangle p a b c ∷ xs) ys = introduced-++ xs ys
introduced-++ (Finalization p i ∷ xs) ys = introduced-++ xs ys

pub finalized-++ : (xs ys : List Event) → finalized (xs ++ ys) ≡ finalized xs ++ finalized ys
finalized-++ [] ys = refl
finalized-++ (Vertex p n at ∷ xs) ys = finalized-++ xs ys
finalized-++ (Triangle p a b c ∷ xs) ys = finalized-++ xs ys
finalized-++ (Finalization p i ∷ xs) ys = ap (λ (z : List ℕ). i ∷ z) (finalized-++ xs ys)

pub triangles-++ : (xs ys : List Event) → triangles (xs ++ ys) ≡ triangles xs + triangles ys
triangles-++ [] ys = sym (zero-add (triangles ys))
triangles-++ (Vertex p n at ∷ xs) ys = triangles-++ xs ys
triangles-++ (Triangle p a b c ∷ xs) ys = ap suc (triangles-++ xs ys) ∙ sym (suc-add (triangles xs) (triangles ys))
triangles-++ (Finalization p i ∷ xs) ys = triangles-++ xs ys

-- one event more
module _ (es : List Event) (l : ℕ) where
  pub introduced_v : (n : ℕ) (v : Point) → introduced (es ++ (Vertex l n v ∷ [])) ≡ introduced es ++ (n ∷ [])
  introduced_v n v = introduced-++ es (Vertex l n v ∷ [])

  pub introduced_t : (a b c : ℕ) → introduced (es ++ (Triangle l a b c ∷ [])) ≡ introduced es
  introduced_t a b c = introduced-++ es (Triangle l a b c ∷ []) ∙ append-nil (introduced es)

  pub introduced_f : (i : ℕ) → introduced (es ++ (Finalization l i ∷ [])) ≡ introduced es
  introduced_f i = introduced-++ es (Finalization l i ∷ []) ∙ append-nil (introduced es)

  pub finalized_v : (n : ℕ) (v : Point) → finalized (es ++ (Vertex l n v ∷ [])) ≡ finalized es
  finalized_v n v = finalized-++ es (Vertex l n v ∷ []) ∙ append-nil (finalized es)

  pub finalized_t : (a b c : ℕ) → finalized (es ++ (Triangle l a b c ∷ [])) ≡ finalized es
  finalized_t a b c = finalized-++ es (Triangle l a b c ∷ []) ∙ append-nil (finalized es)

  pub finalized_f : (i : ℕ) → finalized (es ++ (Finalization l i ∷ [])) ≡ finalized es ++ (i ∷ [])
  finalized_f i = finalized-++ es (Finalization l i ∷ [])

  pub triangles_v : (n : ℕ) (v : Point) → triangles (es ++ (Vertex l n v ∷ [])) ≡ triangles es
  triangles_v n v = triangles-++ es (Vertex l n v ∷ []) ∙ add-zero (triangles es)

  pub triangles_t : (a b c : ℕ) → triangles (es ++ (Triangle l a b c ∷ [])) ≡ triangles es + 1
  triangles_t a b c = triangles-++ es (Triangle l a b c ∷ [])

  pub triangles_f : (i : ℕ) → triangles (es ++ (Finalization l i ∷ [])) ≡ triangles es
  triangles_f i = triangles-++ es (Finalization l i ∷ []) ∙ add-zero (triangles es)
