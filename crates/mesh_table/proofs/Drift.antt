-- How far records stand from their homes, all together. Each record that is moved into a hole comes nearer to its home.
use Rattle.std.proofs.Common.{◌≡◌, ℕ, zero, suc, ◌+◌, ◌<◌, List, [], ◌∷◌, length, set, Some, None, ap, ◌∙◌, subst, arith, length-set}
use Rattle.std.proofs.lemmas.List.{get_or-set_other}
use Rattle.mesh_table.specs.Probing.{Slot, holding, slot_at, steps_between, home_slot, CutOff}
use Rattle.mesh_table.proofs.SlotCases.{empty_full}

abbrev offset : {V : Type 0} → ℕ → ℕ → Slot V → ℕ
offset n i None = 0
offset n i (Some r) = steps_between n (home_slot n r.key) i

-- the first of the slots is slot i of n
pub drift : {V : Type 0} → ℕ → ℕ → List (Slot V) → ℕ
drift n i [] = 0
drift n i (s ∷ ss) = offset n i s + drift n (suc i) ss

drift_set :
    {V : Type 0} (n b : ℕ) (ss : List (Slot V)) (i p : ℕ) (s : Slot V) → i < length ss → p ≡ b + i
    → drift n b (set ss i s) + offset n p (slot_at ss i) ≡ drift n b ss + offset n p s
unfolding drift
drift_set n b [] i p s l e = absurd (omega arith)
drift_set n b (x ∷ ss) zero p s l e =
    subst (λ (q : ℕ). offset n b s + drift n (suc b) ss + offset n q x ≡ offset n b x + drift n (suc b) ss + offset n q s)
    (let z : b ≡ p = omega arith in z) (omega arith)
drift_set n b (x ∷ ss) (suc i) p s l e = omega (arith, drift_set n (suc b) ss i p s (omega arith) (omega arith))

-- a record that is moved into the hole comes nearer to its home
pub drift_moved :
    {V : Type 0} (n : ℕ) (ss : List (Slot V)) (hole i : ℕ) → length ss ≡ n → hole < n → slot_at ss hole ≡ None
    → (c : CutOff n ss hole i) → drift n 0 (set (set ss i None) hole (holding c.key c.value)) < drift n 0 ss
drift_moved n ss hole i len hn bare c =
    let a = drift_set n 0 ss i i None (omega (arith, c.inside)) (omega arith) in
    let b = drift_set n 0 (set ss i None) hole hole (holding c.key c.value) (omega (arith, length-set ss i None)) (omega arith) in
    let ne : hole ≡ i → ⊥ = λ e. empty_full (slot_at ss hole) c.key c.value bare (ap (slot_at ss) e ∙ c.here) in
    omega (arith, a, b, c.before, ap (offset n i) c.here, ap (offset n hole) (get_or-set_other ss i hole None None ne ∙ bare))
