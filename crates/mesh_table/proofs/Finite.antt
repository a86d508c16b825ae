-- A list of slots as a finite map.
use Rattle.std.proofs.Common.{◌≡◌, ℕ, zero, suc, ◌+◌, ◌<◌, ◌≤◌, true, false, ◌⊎◌, List, [], ◌∷◌, length, set, replicate, Some, None, Option, sym, refl, ap, ◌∙◌, inl, inr, ⊎_elim, arith}
use Rattle.std.proofs.lemmas.List.{get_or_past, get_or-set_same, get_or-set_other, get_or-replicate, length-replicate}
use Rattle.std.proofs.lemmas.Bool.{cases_lt, cases_eq, cases_order, cases_Bool, cond-true, cond-false}
use Rattle.mesh_table.specs.declared.key.Key.{Key}
use Rattle.mesh_table.specs.Keys.{same_key}
use Rattle.mesh_table.specs.Probing.{Slot, holding, slot_at, pick, lookup, filled, size, Distinct}
use Rattle.mesh_table.proofs.Keys.{same_key_refl, same_key_true}
use Rattle.mesh_table.proofs.SlotCases.{Misses, empty_full}

pick_miss : {V : Type 0} (s : Slot V) (k : Key) (o : Option V) → Misses s k → pick s k o ≡ o
pick_miss None k o m = refl
pick_miss (Some r) k o m =
    ⊎_elim (λ (t : same_key r.key k ≡ true). absurd (m r.value (ap (λ (x : Key). holding x r.value) (same_key_true r.key k t))))
    (λ (f : same_key r.key k ≡ false). cond-false (same_key r.key k) (Some r.value) o f) (cases_Bool (same_key r.key k))

pub lookup_none : {V : Type 0} (ss : List (Slot V)) (k : Key) → ((j : ℕ) → Misses (slot_at ss j) k) → lookup ss k ≡ None
lookup_none [] k m = refl
lookup_none (s ∷ ss) k m = pick_miss s k (lookup ss k) (m 0) ∙ lookup_none ss k (λ j. m (suc j))

distinct_rest : {V : Type 0} (s : Slot V) (ss : List (Slot V)) → Distinct (s ∷ ss) → Distinct ss
distinct_rest s ss a t = a (suc t.0, suc t.1, t.2, t.3, t.4, omega (arith, t.5), t.6, t.7)

pub lookup_here :
    {V : Type 0} (ss : List (Slot V)) (i : ℕ) (k : Key) (v : V) → Distinct ss → slot_at ss i ≡ holding k v
    → lookup ss k ≡ Some v
lookup_here [] i k v a p = absurd (empty_full None k v refl p)
lookup_here (s ∷ ss) zero k v a p =
    ap (λ (x : Slot _). pick x k (lookup ss k)) p ∙ cond-true (same_key k k) (Some v) (lookup ss k) (same_key_refl k)
lookup_here (s ∷ ss) (suc i) k v a p =
    pick_miss s k (lookup ss k) (λ w q. a (0, suc i, k, w, v, omega arith, q, p)) ∙ lookup_here ss i k v (distinct_rest s ss a) p

pub lookup_set_miss :
    {V : Type 0} (ss : List (Slot V)) (i : ℕ) (s : Slot V) (q : Key) → Misses (slot_at ss i) q → Misses s q
    → lookup (set ss i s) q ≡ lookup ss q
lookup_set_miss [] i s q m m' = refl
lookup_set_miss (x ∷ ss) zero s q m m' = pick_miss s q (lookup ss q) m' ∙ sym (pick_miss x q (lookup ss q) m)
lookup_set_miss (x ∷ ss) (suc i) s q m m' = ap (pick x q) (lookup_set_miss ss i s q m m')

pub lookup_zero : {V : Type 0} (ss : List (Slot V)) (k : Key) → size ss ≡ 0 → lookup ss k ≡ None
lookup_zero [] k z = refl
lookup_zero (None ∷ ss) k z = lookup_zero ss k (omega arith)
lookup_zero (Some r ∷ ss) k z = absurd (omega arith)

pub size_set :
    {V : Type 0} (ss : List (Slot V)) (i : ℕ) (s : Slot V) → i < length ss
    → size (set ss i s) + filled (slot_at ss i) ≡ size ss + filled s
size_set [] i s l = absurd (omega arith)
size_set (x ∷ ss) zero s l = omega arith
size_set (x ∷ ss) (suc i) s l = omega (arith, size_set ss i s (omega arith))

pub size_full : {V : Type 0} (ss : List (Slot V)) → ((j : ℕ) → j < length ss → filled (slot_at ss j) ≡ 1) → size ss ≡ length ss
size_full [] f = refl
size_full (s ∷ ss) f = omega (arith, f 0 (omega arith), size_full ss (λ j l. f (suc j) (omega arith)))

pub size_none : (V : Type 0) (n : ℕ) → size (replicate {A = Slot V} n None) ≡ 0
size_none V zero = refl
size_none V (suc n) = omega (arith, size_none V n)

pub slot_none : {V : Type 0} (n j : ℕ) → slot_at (replicate {A = Slot V} n None) j ≡ None
slot_none {V} n j =
    ⊎_elim (λ (l : j < n). get_or-replicate n j None None l)
    (λ (l : n ≤ j). get_or_past (replicate n None) j None (omega (arith, length-replicate {A = Slot V} n None))) (cases_lt j n)

-- a full slot is one of the list
pub full_inside : {V : Type 0} (ss : List (Slot V)) (j : ℕ) (k : Key) (v : V) → slot_at ss j ≡ holding k v → j < length ss
full_inside ss j k v p =
    ⊎_elim (λ (l : j < length ss). l)
    (λ (l : length ss ≤ j). absurd (empty_full (slot_at ss j) k v (get_or_past ss j None l) p)) (cases_lt j (length ss))

-- a slot after a write is what was written, or what it was
pub was :
    {V : Type 0} (ss : List (Slot V)) (i : ℕ) (s : Slot V) (j : ℕ) (y : Slot V) → i < length ss → slot_at (set ss i s) j ≡ y
    → ((j ≡ i) × (s ≡ y)) ⊎ (slot_at ss j ≡ y)
was ss i s j y l p =
    ⊎_elim (λ (e : j ≡ i). inl (e, sym (ap (slot_at (set ss i s)) e ∙ get_or-set_same ss i s None l) ∙ p))
    (λ (e : j ≡ i → ⊥). inr (sym (get_or-set_other ss i j s None e) ∙ p)) (cases_eq j i)

pub distinct_two :
    {V : Type 0} (ss : List (Slot V)) (k : Key) (i j : ℕ) (v w : V) → Distinct ss → (i ≡ j → ⊥) → slot_at ss i ≡ holding k v
    → slot_at ss j ≡ holding k w → ⊥
distinct_two ss k i j v w a ne p q =
    ⊎_elim ne (⊎_elim (λ (l : i < j). a (i, j, k, v, w, l, p, q)) (λ (l : j < i). a (j, i, k, w, v, l, q, p))) (cases_order i j)
