-- Keys that are the same, and the range of the spread.
use Rattle.std.proofs.Common.{◌≡◌, ◌+◌, ◌^◌, ◌<◌, true, false, eqb, ◌⊎◌, sym, refl, ap, ◌∙◌, inl, inr, ⊎_elim, mod-lt, lit<}
use Rattle.std.proofs.lemmas.Bool.{cases_Bool, both_ways, eq-eqb, eqb-true, and_from, and_parts}
use Rattle.mesh_table.specs.declared.key.Key.{Key}
use Rattle.mesh_table.specs.Keys.{same_key, part_spread, spread}

-- a key is its two parts
pub key_parts : (a b : Key) → a.first ≡ b.first → a.second ≡ b.second → a ≡ b
key_parts a b p q = λ i. record { first = p i; second = q i }

pub same_key_refl : (k : Key) → same_key k k ≡ true
same_key_refl k =
    and_from (eqb k.first k.first) (eqb k.second k.second) (eq-eqb k.first k.first refl)
    (eq-eqb k.second k.second refl)

pub same_key_true : (j k : Key) → same_key j k ≡ true → j ≡ k
same_key_true j k e =
    let p = and_parts (eqb j.first k.first) (eqb j.second k.second) e in
    key_parts j k (eqb-true j.first k.first p.0) (eqb-true j.second k.second p.1)

-- keys are the same or not
pub key_cases : (q k : Key) → (q ≡ k) ⊎ (q ≡ k → ⊥)
key_cases q k =
    ⊎_elim (λ (t : same_key q k ≡ true). inl (same_key_true q k t))
    (λ (f : same_key q k ≡ false). inr (λ e. both_ways (same_key q k) f (ap (λ (x : Key). same_key q x) (sym e) ∙ same_key_refl q)))
    (cases_Bool (same_key q k))

pub spread_below : (k : Key) → spread k < 2 ^ 32
spread_below k = mod-lt (part_spread k.first + part_spread k.second) {m = 2 ^ 32} (lit< tt)
