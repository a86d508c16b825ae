-- The corners that the triangles of a joined list name.
use Rattle.std.proofs.Common.{◌≡◌, ℕ, List, [], ◌∷◌, ◌++◌, refl, ap, ◌∙◌, append-nil}
use Rattle.mesh_stream.specs.declared.event.Point.{Point}
use Rattle.mesh_stream.specs.declared.event.Event.{Event}
use Rattle.mesh_stream.specs.declared.event.Event.TheVariants.{Vertex, Triangle, Finalization}
use Rattle.mesh_rules.specs.Rewriting.{named}

pub named-++ : (xs ys : List Event) → named (xs ++ ys) ≡ named xs ++ named ys
named-++ [] ys = refl
named-++ (Vertex p n at ∷ xs) ys = named-++ xs ys
named-++ (Triangle p a b c ∷ xs) ys = ap (λ (z : List ℕ). a ∷ b ∷ c ∷ z) (named-++ xs ys)
named-++ (Finalization p i ∷ xs) ys = named-++ xs ys

-- one event more
module _ (es : List Event) (l : ℕ) where
  pub named_v : (n : ℕ) (v : Point) → named (es ++ (Vertex l n v ∷ [])) ≡ named es
  named_v n v = named-++ es (Vertex l n v ∷ []) ∙ append-nil (named es)

  pub named_t : (a b c : ℕ) → named (es ++ (Triangle l a b c ∷ [])) ≡ named es ++ (a ∷ b ∷ c ∷ [])
  named_t a b c = named-++ es (Triangle l a b c ∷ [])

  pub named_f : (i : ℕ) → named (es ++ (Finalization l i ∷ [])) ≡ named es
  named_f i = named-++ es (Finalization l i ∷ []) ∙ append-nil (named es)
