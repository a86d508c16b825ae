-- An edge by its two ends.
use Rattle.std.proofs.Common.{◌≡◌, ℕ, Bool, true, false, cond, ◌&&◌, ◌||◌, eqb, ◌⊎◌, sym, refl, ap, ◌∙◌, inl, inr, arith}
use Rattle.std.proofs.Math.Bool.{and_comm, or_comm}
use Rattle.std.proofs.lemmas.Bool.Decides.{nat_tests}
use Rattle.std.proofs.lemmas.Bool.{eqb-true, and_parts, or_cases}
use Rattle.mesh_edges.specs.declared.edge.Edge.{Edge}
use Rattle.mesh_edges.specs.Bordering.{same_edge, ends_at, other_end}
use Rattle.mesh_edge_windows.specs.Edges.{joins}

eqb_swap : (m n : ℕ) → eqb m n ≡ eqb n m
eqb_swap m n = grind (arith, nat_tests)

joins_swap : (a b : ℕ) (e : Edge) → joins a b e ≡ joins b a e
joins_swap a b e =
    or_comm (eqb a e.from && eqb b e.to) (eqb a e.to && eqb b e.from)
    ∙ ap (λ x. x || (eqb a e.from && eqb b e.to)) (and_comm (eqb a e.to) (eqb b e.from))
    ∙ ap (λ x. (eqb b e.from && eqb a e.to) || x) (and_comm (eqb a e.from) (eqb b e.to))

-- they are its ends, in either order
abbrev pub Ends : ℕ → ℕ → Edge → Type 0
Ends a b e = ((a ≡ e.from) × (b ≡ e.to)) ⊎ ((a ≡ e.to) × (b ≡ e.from))

pub joins_cases : (a b : ℕ) (e : Edge) → joins a b e ≡ true → Ends a b e
joins_cases a b e h = elim (or_cases _ _ h) [
  | inl k ↦ (let p = and_parts (eqb a e.from) (eqb b e.to) k in inl (eqb-true _ _ p.0, eqb-true _ _ p.1))
  | inr k ↦ (let p = and_parts (eqb a e.to) (eqb b e.from) k in inr (eqb-true _ _ p.0, eqb-true _ _ p.1))
]

-- the ends of an edge by which it is found
pub joined_same : (a b : ℕ) (e : Edge) → joins a b e ≡ true → (x : Edge) → same_edge e x ≡ joins a b x
joined_same a b e h x = at (joins_cases a b e h)
  where
    at : Ends a b e → joins e.from e.to x ≡ joins a b x
    at (inl p) = ap (λ m. joins m e.to x) (sym p.0) ∙ ap (λ m. joins a m x) (sym p.1)
    at (inr p) = joins_swap e.from e.to x ∙ ap (λ m. joins m e.from x) (sym p.0) ∙ ap (λ m. joins a m x) (sym p.1)

pub same_swap : (x y : Edge) → same_edge x y ≡ same_edge y x
same_swap x y =
    ap (λ z. (z && eqb x.to y.to) || (eqb x.from y.to && eqb x.to y.from)) (eqb_swap x.from y.from)
    ∙ ap (λ z. (eqb y.from x.from && z) || (eqb x.from y.to && eqb x.to y.from)) (eqb_swap x.to y.to)
    ∙ ap (λ z. (eqb y.from x.from && eqb y.to x.to) || (z && eqb x.to y.from)) (eqb_swap x.from y.to)
    ∙ ap (λ z. (eqb y.from x.from && eqb y.to x.to) || (eqb y.to x.from && z)) (eqb_swap x.to y.from)
    ∙ ap (λ z. (eqb y.from x.from && eqb y.to x.to) || z) (and_comm (eqb y.to x.from) (eqb y.from x.to))

-- an edge at i, by its other end
joins_at : (i j f t : ℕ)
    → ((eqb i f && eqb j t) || (eqb i t && eqb j f)) ≡ ((eqb f i || eqb t i) && eqb (cond (eqb f i) t f) j)
joins_at i j f t = at (eqb f i) refl
  where
    at : (b : Bool) → eqb f i ≡ b → ((eqb i f && eqb j t) || (eqb i t && eqb j f)) ≡ ((b || eqb t i) && eqb (cond b t f) j)
    at true p = grind (arith, nat_tests)
    at false p = grind (arith, nat_tests)

pub joins_is : (i j : ℕ) (e : Edge) → joins i j e ≡ (ends_at i e && eqb (other_end i e) j)
joins_is i j e = joins_at i j e.from e.to
