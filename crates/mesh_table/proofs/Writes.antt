-- What a write to one slot makes of the map that the slots are.
use Rattle.std.proofs.Common.{◌≡◌, ℕ, ◌+◌, ◌<◌, cond, List, length, set, replicate, is_some, Some, None, Option, sym, refl, ap, ◌∙◌, subst, inl, inr, ⊎_elim, arith}
use Rattle.std.proofs.lemmas.List.{get_or-set_same}
use Rattle.std.proofs.lemmas.Bool.{cases_eq}
use Rattle.mesh_table.specs.declared.key.Key.{Key}
use Rattle.mesh_table.specs.Probing.{Slot, holding, slot_at, slot_ahead, home_slot, filled, size, lookup, Distinct, Reached, Has, Sound, Holed, Alike, Becomes, EndsAt, Cut}
use Rattle.mesh_table.proofs.Steps.{ahead_onto, ahead_below, ahead_same, home_below}
use Rattle.mesh_table.proofs.Absent.{vacant_misses}
use Rattle.mesh_table.proofs.SlotCases.{Misses, empty_full, full_key, empty_misses, full_misses, foreign_full}
use Rattle.mesh_table.proofs.Finite.{full_inside, lookup_here, lookup_none, lookup_set_miss, size_set, slot_none, was, distinct_two}

pub distinct_none : {V : Type 0} (n : ℕ) → Distinct (replicate {A = Slot V} n None)
distinct_none n t = empty_full _ t.2 t.3 (slot_none n t.0) t.6

pub reached_none : {V : Type 0} (n : ℕ) → Reached n (replicate {A = Slot V} n None)
reached_none n t = empty_full _ t.0 t.1 (slot_none n (slot_ahead n (home_slot n t.0) t.3)) t.5

module _ {V : Type 0} (ss : List (Slot V)) (i : ℕ) (l : i < length ss) where
  -- a record of key k is written at i, where no other slot has k
  distinct_full :
      (k : Key) (v : V) → Distinct ss → ((j : ℕ) → (j ≡ i → ⊥) → Misses (slot_at ss j) k) → Distinct (set ss i (holding k v))
  distinct_full k v a m t =
      ⊎_elim
      (λ (p : (t.0 ≡ i) × (holding k v ≡ holding t.2 t.3)).
      ⊎_elim (λ (q : (t.1 ≡ i) × (holding k v ≡ holding t.2 t.4)). omega (arith, t.5, p.0, q.0))
      (λ (q : slot_at ss t.1 ≡ holding t.2 t.4).
      m t.1 (λ e. omega (arith, t.5, p.0, e)) t.4
      (q ∙ ap (λ (x : Key). holding x t.4) (sym (full_key (holding k v) k t.2 v t.3 refl p.1))))
      (was ss i (holding k v) t.1 (holding t.2 t.4) l t.7))
      (λ (p : slot_at ss t.0 ≡ holding t.2 t.3).
      ⊎_elim
      (λ (q : (t.1 ≡ i) × (holding k v ≡ holding t.2 t.4)).
      m t.0 (λ e. omega (arith, t.5, q.0, e)) t.3
      (p ∙ ap (λ (x : Key). holding x t.3) (sym (full_key (holding k v) k t.2 v t.4 refl q.1))))
      (λ (q : slot_at ss t.1 ≡ holding t.2 t.4). a (t.0, t.1, t.2, t.3, t.4, t.5, p, q))
      (was ss i (holding k v) t.1 (holding t.2 t.4) l t.7))
      (was ss i (holding k v) t.0 (holding t.2 t.3) l t.6)

  distinct_empty : Distinct ss → Distinct (set ss i None)
  distinct_empty a t =
      ⊎_elim (λ (p : (t.0 ≡ i) × (None ≡ holding t.2 t.3)). empty_full None t.2 t.3 refl p.1)
      (λ (p : slot_at ss t.0 ≡ holding t.2 t.3).
      ⊎_elim (λ (q : (t.1 ≡ i) × (None ≡ holding t.2 t.4)). empty_full None t.2 t.4 refl q.1)
      (λ (q : slot_at ss t.1 ≡ holding t.2 t.4). a (t.0, t.1, t.2, t.3, t.4, t.5, p, q))
      (was ss i None t.1 (holding t.2 t.4) l t.7))
      (was ss i None t.0 (holding t.2 t.3) l t.6)

  -- a record of key k is written at i, which a search for k comes to
  reached_full :
      (n : ℕ) (k : Key) (v : V) → 0 < n → Reached n ss → (e : ℕ) → e < n → slot_ahead n (home_slot n k) e ≡ i
      → ((d : ℕ) → d < e → slot_at ss (slot_ahead n (home_slot n k) d) ≡ None → ⊥) → Reached n (set ss i (holding k v))
  reached_full n k v pos a e en at full (k', v', d, e', en', p, de, q) =
      ⊎_elim (λ (o : (slot_ahead n (home_slot n k') d ≡ i) × (holding k v ≡ None)). empty_full (holding k v) k v o.1 refl)
      (λ (q' : slot_at ss (slot_ahead n (home_slot n k') d) ≡ None).
      ⊎_elim
      (λ (o : (slot_ahead n (home_slot n k') e' ≡ i) × (holding k v ≡ holding k' v')).
      let kk : k ≡ k' = full_key (holding k v) k k' v v' refl o.1 in
      let hh : home_slot n k ≡ home_slot n k' = ap (home_slot n) kk in
      let ee : e ≡ e' =
      ahead_same n (home_slot n k) e e' (home_below n k pos) en en'
      (at ∙ sym (ap (λ (x : ℕ). slot_ahead n x e') hh ∙ o.0)) in
      full d (omega arith) (ap (λ (x : ℕ). slot_at ss (slot_ahead n x d)) hh ∙ q'))
      (λ (p' : slot_at ss (slot_ahead n (home_slot n k') e') ≡ holding k' v'). a (k', v', d, e', en', p', de, q'))
      (was ss i (holding k v) (slot_ahead n (home_slot n k') e') (holding k' v') l p))
      (was ss i (holding k v) (slot_ahead n (home_slot n k') d) None l q)

-- ts is the map ss with w at k
pub record Written {V : Type 0} (ss ts : List (Slot V)) (k : Key) (w : Option V) : Type 0 where
  pub distinct : Distinct ts
  pub becomes : Becomes ss ts k w

-- the map, after records have been moved
pub becomes_alike :
    {V : Type 0} {ss ts us : List (Slot V)} {k : Key} {w : Option V} → Becomes ss ts k w → Alike ts us → Becomes ss us k w
becomes_alike b alike = record { here = alike.lookup _ ∙ b.here; other = λ q ne. alike.lookup q ∙ b.other q ne }

-- a value is put at a key, where a search for the key ends
pub record Took {V : Type 0} (n : ℕ) (ss ts : List (Slot V)) (k : Key) (v : V) : Type 0 where
  pub sound : Sound n ts
  pub becomes : Becomes ss ts k (Some v)
  pub counted : size ts + cond (is_some (lookup ss k)) 1 0 ≡ size ss + 1

-- the slot of a record is emptied, and is the hole
pub record Emptied {V : Type 0} (n : ℕ) (ss ts : List (Slot V)) (k : Key) (i : ℕ) : Type 0 where
  pub holed : Holed n ts i
  pub becomes : Becomes ss ts k None
  pub counted : size ts + 1 ≡ size ss

module _ {V : Type 0} (n : ℕ) (ss : List (Slot V)) (len : length ss ≡ n) (dis : Distinct ss) where
  pub put_full :
      (k : Key) (v : V) (i : ℕ) → i < n → ((j : ℕ) → (j ≡ i → ⊥) → Misses (slot_at ss j) k)
      → ((q : Key) → (q ≡ k → ⊥) → Misses (slot_at ss i) q) → Written ss (set ss i (holding k v)) k (Some v)
  put_full k v i lt m free =
      let l : i < length ss = omega arith in
      let a = distinct_full ss i l k v dis m in
      record {
        distinct = a;
        becomes = record {
          here = lookup_here (set ss i (holding k v)) i k v a (get_or-set_same ss i (holding k v) None l);
          other = λ q ne. lookup_set_miss ss i (holding k v) q (free q ne) (full_misses (holding k v) k q v refl ne);
        };
      }

  pub put_empty : (k : Key) (w : V) (i : ℕ) → i < n → slot_at ss i ≡ holding k w → Written ss (set ss i None) k None
  put_empty k w i lt old =
      let l : i < length ss = omega arith in
      record {
        distinct = distinct_empty ss i l dis;
        becomes = record {
          here = lookup_none (set ss i None) k (gone l);
          other = λ q ne. lookup_set_miss ss i None q (full_misses (slot_at ss i) k q w old ne) (empty_misses None q refl);
        };
      }
    where
      gone : i < length ss → (j : ℕ) → Misses (slot_at (set ss i None) j) k
      gone l j v p =
          ⊎_elim
          (λ (e : j ≡ i).
          empty_full None k v refl (sym (get_or-set_same ss i None None l) ∙ ap (slot_at (set ss i None)) (sym e) ∙ p))
          (λ (ne : j ≡ i → ⊥).
          ⊎_elim (λ (o : (j ≡ i) × (None ≡ holding k v)). ne o.0)
          (λ (q : slot_at ss j ≡ holding k v). distinct_two ss k j i v w dis ne q old) (was ss i None j (holding k v) l p))
          (cases_eq j i)

  module _ (pos : 0 < n) (re : Reached n ss) where
    pub took : (k : Key) (v : V) (i : ℕ) → EndsAt n ss k i → Took n ss (set ss i (holding k v)) k v
    took k v i (inl (has, at, there)) =
        let l = full_inside ss i k has.0 has.1 in
        let lt : i < n = omega arith in
        let o = ahead_onto n (home_slot n k) i (home_below n k pos) lt in
        let p =
        put_full k v i lt (λ j ne u q. distinct_two ss k j i u has.0 dis ne q has.1)
        (λ q ne. full_misses (slot_at ss i) k q has.0 has.1 ne) in
        record {
          sound = record {
            distinct = p.distinct;
            reached = reached_full ss i l n k v pos re o.0 o.1 o.2
                (λ d de q. re (k, has.0, d, o.0, o.1, ap (slot_at ss) o.2 ∙ has.1, de, q));
          };
          becomes = p.becomes;
          counted = omega (arith, size_set ss i (holding k v) l, ap filled has.1, ap (λ b. cond {A = ℕ} b 1 0) there);
        }
    took k v i (inr (vac, none)) =
        let lt : i < n = subst (λ (x : ℕ). x < n) (sym vac.at) (ahead_below n (home_slot n k) vac.steps (home_below n k pos) vac.within) in
        let l : i < length ss = omega arith in
        let miss = vacant_misses n ss k len (home_below n k pos) re vac.steps (ap (slot_at ss) (sym vac.at) ∙ vac.bare) vac.passed in
        let p = put_full k v i lt (λ j _. miss j) (λ q _. empty_misses (slot_at ss i) q vac.bare) in
        record {
          sound = record {
            distinct = p.distinct;
            reached = reached_full ss i l n k v pos re vac.steps vac.within (sym vac.at) (λ d l. foreign_full _ k (vac.passed d l));
          };
          becomes = p.becomes;
          counted = omega (arith, size_set ss i (holding k v) l, ap filled vac.bare, ap (λ (o : Option V). cond {A = ℕ} (is_some o) 1 0) none);
        }

    pub emptied : (k : Key) (i : ℕ) → Has (slot_at ss i) k → Emptied n ss (set ss i None) k i
    emptied k i has =
        let l = full_inside ss i k has.0 has.1 in
        let lt : i < n = omega arith in
        let e = put_empty k has.0 i lt has.1 in
        record {
          holed = record {
            distinct = e.distinct;
            inside = lt;
            bare = get_or-set_same ss i None None l;
            reached = only l;
          };
          becomes = e.becomes;
          counted = omega (arith, size_set ss i None l, ap filled has.1);
        }
      where
        only :
            i < length ss → (c : Cut n (set ss i None)) → slot_ahead n (home_slot n c.0) c.2 ≡ i
        only l (q, v, d, e, en, p, de, z) =
            ⊎_elim (λ (o : (slot_ahead n (home_slot n q) d ≡ i) × (None ≡ None)). o.0)
            (λ (z' : slot_at ss (slot_ahead n (home_slot n q) d) ≡ None).
            ⊎_elim (λ (o : (slot_ahead n (home_slot n q) e ≡ i) × (None ≡ holding q v)). absurd (empty_full None q v refl o.1))
            (λ (p' : slot_at ss (slot_ahead n (home_slot n q) e) ≡ holding q v). absurd (re (q, v, d, e, en, p', de, z')))
            (was ss i None (slot_ahead n (home_slot n q) e) (holding q v) l p))
            (was ss i None (slot_ahead n (home_slot n q) d) None l z)
