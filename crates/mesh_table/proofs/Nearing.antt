-- The lowest vertex number, slot by slot.
use Rattle.std.proofs.Common.{◌≡◌, ℕ, ◌+◌, ◌<◌, ◌≤◌, Bool, true, false, cond, ◌&&◌, eqb, leb, ◌⊎◌, List, length, Some, None, Option, sym, refl, ap, ◌∙◌, subst, inl, inr, ⊎_elim, arith}
use Rattle.std.proofs.lemmas.Option.{none-some, same_Some}
use Rattle.std.proofs.lemmas.Bool.{cases_lt, and_parts, and_cases, eqb-true, eqb-false, leb-true, leb-false}
use Rattle.mesh_table.specs.declared.key.Key.{Key}
use Rattle.mesh_table.specs.declared.ring.Record.{Record}
use Rattle.mesh_table.specs.Keys.{vertex_key}
use Rattle.mesh_table.specs.Probing.{Slot, holding, slot_at, lookup, Distinct}
use Rattle.mesh_table.specs.LowestVertex.{bound, lower, LowestIn}
use Rattle.mesh_table.proofs.Keys.{key_parts}
use Rattle.mesh_table.proofs.SlotCases.{empty_full, full_key}
use Rattle.mesh_table.proofs.Finite.{full_inside, lookup_none, lookup_here}

-- what is known of the lowest record among the first i slots
pub record Near {V : Type 0} (ss : List (Slot V)) (i m : ℕ) (b : Option (Record V)) : Type 0 where
  pub within : bound b m ≤ m
  pub lowest : (j n : ℕ) (v : V) → j < i → slot_at ss j ≡ holding (vertex_key n) v → n ≤ m → (bound b m ≤ n) × (b ≡ None → ⊥)
  pub here : (r : Record V) → b ≡ Some r → lookup ss (vertex_key r.key.first) ≡ Some r.value

last : (j i : ℕ) → j < i + 1 → (j < i) ⊎ (j ≡ i)
last j i l = ⊎_elim (λ (x : j < i). inl x) (λ (x : i ≤ j). inr (omega arith)) (cases_lt j i)

module _ {V : Type 0} (ss : List (Slot V)) (i m : ℕ) (b : Option (Record V)) (a : Distinct ss) (near : Near ss i m b) where
  -- the lowest record stays
  stays :
      ((n : ℕ) (v : V) → slot_at ss i ≡ holding (vertex_key n) v → n ≤ m → (bound b m ≤ n) × (b ≡ None → ⊥))
      → Near ss (i + 1) m b
  stays here =
      record {
        within = near.within;
        lowest = λ j n v l q le.
            elim (last j i l) [ inl x ↦ near.lowest j n v x q le | inr x ↦ here n v (ap (slot_at ss) (sym x) ∙ q) le ];
        here = near.here;
      }

  full :
      (r : Record V) → slot_at ss i ≡ Some r → (t : Bool) → (eqb r.key.second 0 && leb r.key.first (bound b m)) ≡ t
      → Near ss (i + 1) m (cond t (Some r) b)
  full r p true e =
      let h = and_parts (eqb r.key.second 0) (leb r.key.first (bound b m)) e in
      let z : r.key.second ≡ 0 = eqb-true r.key.second 0 h.0 in
      let l : r.key.first ≤ bound b m = leb-true r.key.first (bound b m) h.1 in
      record {
        within = omega (arith, near.within);
        lowest = λ j n w x y le. (low j n w x y le l, λ n. none-some r (sym n));
        here = λ q y. subst (λ (q : Record V). lookup ss (vertex_key q.key.first) ≡ Some q.value) (same_Some r q y)
            (ap (lookup ss) (key_parts (vertex_key r.key.first) r.key refl (sym z)) ∙ lookup_here ss i r.key r.value a p);
      }
    where
      low :
          (j n : ℕ) (w : V) → j < i + 1 → slot_at ss j ≡ holding (vertex_key n) w → n ≤ m → r.key.first ≤ bound b m
          → r.key.first ≤ n
      low j n w x y le l =
          elim (last j i x) [
            | inl u ↦ (let f = (near.lowest j n w u y le).0 in omega arith)
            | inr u ↦
                (let f : vertex_key n ≡ r.key = full_key (slot_at ss i) (vertex_key n) r.key w r.value (ap (slot_at ss) (sym u) ∙ y) p in
                let s : n ≡ r.key.first = ap (λ (z : Key). z.first) f in
                omega arith)
          ]
  full r p false e = stays (λ n w y le. by n le (full_key (slot_at ss i) (vertex_key n) r.key w r.value y p))
    where
      higher : (n : ℕ) → n ≡ r.key.first → 0 ≡ r.key.second → bound b m < n
      higher n x y =
          elim (and_cases (eqb r.key.second 0) (leb r.key.first (bound b m)) e) [
            | inl u ↦ absurd (eqb-false r.key.second 0 u (sym y))
            | inr u ↦ (let l = leb-false r.key.first (bound b m) u in omega arith)
          ]

      by : (n : ℕ) → n ≤ m → vertex_key n ≡ r.key → (bound b m ≤ n) × (b ≡ None → ⊥)
      by n le q =
          let f : bound b m < n = higher n (ap (λ (z : Key). z.first) q) (ap (λ (z : Key). z.second) q) in
          (omega arith, λ u. let s : bound b m ≡ m = ap (λ (o : Option (Record V)). bound o m) u in let z : ⊥ = omega arith in z)

  pub near_step : (s : Slot V) → slot_at ss i ≡ s → Near ss (i + 1) m (lower s b m)
  near_step None p = stays (λ n v e le. absurd (empty_full (slot_at ss i) (vertex_key n) v p e))
  near_step (Some r) p = full r p (eqb r.key.second 0 && leb r.key.first (bound b m)) refl

module _ {V : Type 0} (ss : List (Slot V)) (n m : ℕ) (len : length ss ≡ n) where
  pub near_none : Near ss n m None → LowestIn ss m None
  near_none near q le = lookup_none ss (vertex_key q) (λ j v p. (near.lowest j q v (omega (arith, full_inside ss j (vertex_key q) v p)) p le).1 refl)

  pub near_some : (r : Record V) → Near ss n m (Some r) → LowestIn ss m (Some r.value)
  near_some r near = (r.key.first, near.within, near.here r refl, λ q l. lookup_none ss (vertex_key q) (λ j w p. far q l j w p))
    where
      far : (q : ℕ) → q < r.key.first → (j : ℕ) (w : V) → slot_at ss j ≡ holding (vertex_key q) w → ⊥
      far q l j w p =
          let e = (near.lowest j q w (omega (arith, full_inside ss j (vertex_key q) w p)) p (let x = near.within in omega arith)).0 in
          omega arith
