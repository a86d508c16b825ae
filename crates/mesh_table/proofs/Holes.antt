-- The steps that close the hole a removed record leaves.
use Rattle.std.proofs.Common.{◌≡◌, ℕ, ◌+◌, ◌<◌, ◌≤◌, List, length, set, Some, None, sym, refl, ap, ◌∙◌, subst, ⊎_elim, arith, length-set}
use Rattle.std.proofs.lemmas.List.{get_or-set_same, get_or-set_other}
use Rattle.std.proofs.lemmas.Option.{none-some}
use Rattle.std.proofs.lemmas.Bool.{cases_lt}
use Rattle.mesh_table.specs.declared.key.Key.{Key}
use Rattle.mesh_table.specs.Probing.{Slot, holding, slot_at, slot_ahead, steps_between, home_slot, filled, lookup, Cut, Sound, Holed, CutOff, Alike}
use Rattle.mesh_table.proofs.Keys.{key_cases}
use Rattle.mesh_table.proofs.Steps.{ahead_add, ahead_same, ahead_steps, steps_below, steps_ahead, home_below}
use Rattle.mesh_table.proofs.SlotCases.{empty_full, full_key, empty_misses}
use Rattle.mesh_table.proofs.Finite.{lookup_here, size_set, was}
use Rattle.mesh_table.proofs.Drift.{drift, drift_moved}
use Rattle.mesh_table.proofs.Writes.{Written, put_full, put_empty}

-- each record with the hole between it and its home is g steps or more behind the hole
abbrev pub Far : {V : Type 0} → ℕ → List (Slot V) → ℕ → ℕ → Type 0
Far {V} n ss hole g =
    (k : Key) (v : V) (d e : ℕ) → e < n → d < e → slot_ahead n (home_slot n k) d ≡ hole
    → slot_at ss (slot_ahead n (home_slot n k) e) ≡ holding k v → d + g ≤ e

-- a record is moved into the hole, and slot i is the next hole
pub record Moved {V : Type 0} (n : ℕ) (ss ts : List (Slot V)) (i : ℕ) : Type 0 where
  pub holed : Holed n ts i
  pub alike : Alike ss ts
  pub nearer : drift n 0 ts < drift n 0 ss

pub alike_more : {V : Type 0} (rs ss ts : List (Slot V)) → Alike rs ss → Alike ss ts → Alike rs ts
alike_more rs ss ts a b = record { size = b.size ∙ a.size; lookup = λ q. b.lookup q ∙ a.lookup q }

module _ {V : Type 0} (n : ℕ) (ss : List (Slot V)) (hole : ℕ) (len : length ss ≡ n) (h : Holed n ss hole) where
  pos : 0 < n
  pos = omega (arith, h.inside)

  -- nothing is cut off where every record with the hole before it would stand beyond the last slot
  pub whole : (g : ℕ) → n ≤ g → Far n ss hole g → Sound n ss
  whole g all far =
      record {
        distinct = h.distinct;
        reached = λ c. let f = far c.0 c.1 c.2 c.3 c.4 c.6 (h.reached c) c.5 in omega (arith, f, c.4);
      }

  -- nothing is cut off where an empty slot stands g steps behind the hole
  pub ended : (g i : ℕ) → 0 < g → g < n → i ≡ slot_ahead n hole g → slot_at ss i ≡ None → Far n ss hole g → Sound n ss
  ended g i gp gn is empty far = record { distinct = h.distinct; reached = none }
    where
      end : slot_at ss (slot_ahead n hole g) ≡ None
      end = ap (slot_at ss) (sym is) ∙ empty

      none : Cut n ss → ⊥
      none (k, v, d, e, en, p, de, q) =
          let hb : home_slot n k < n = home_below n k pos in
          let at : slot_ahead n (home_slot n k) d ≡ hole = h.reached (k, v, d, e, en, p, de, q) in
          let dg : d + g ≤ e = far k v d e en de at p in
          let there : slot_ahead n hole g ≡ slot_ahead n (home_slot n k) (d + g) =
          ap (λ (x : ℕ). slot_ahead n x g) (sym at) ∙ ahead_add n (home_slot n k) d g hb (omega arith) in
          let gone : slot_at ss (slot_ahead n (home_slot n k) (d + g)) ≡ None = ap (slot_at ss) (sym there) ∙ end in
          ⊎_elim
          (λ (lt : d + g < e).
          let same : d + g ≡ d =
          ahead_same n (home_slot n k) (d + g) d hb (omega arith) (omega arith)
          (h.reached (k, v, d + g, e, en, p, lt, gone) ∙ sym at) in
          omega (arith, same))
          (λ (ge : e ≤ d + g).
          let eq : e ≡ d + g = omega arith in
          empty_full (slot_at ss (slot_ahead n (home_slot n k) (d + g))) k v gone
          (ap (λ (x : ℕ). slot_at ss (slot_ahead n (home_slot n k) x)) (sym eq) ∙ p))
          (cases_lt (d + g) e)

  -- a record that the hole does not cut off is passed
  pub passed :
      (k : Key) (v : V) (g i : ℕ) → g < n → i ≡ slot_ahead n hole g → slot_at ss i ≡ holding k v
      → steps_between n (home_slot n k) i ≤ steps_between n (home_slot n k) hole → Far n ss hole g → Far n ss hole (g + 1)
  passed k v g i gn is full less far k' v' d e en de at p =
      let here : slot_at ss (slot_ahead n hole g) ≡ holding k v = ap (slot_at ss) (sym is) ∙ full in
      let same : steps_between n (home_slot n k) i ≡ steps_between n (home_slot n k) (slot_ahead n hole g) =
      ap (steps_between n (home_slot n k)) is in
      let dg : d + g ≤ e = far k' v' d e en de at p in
      ⊎_elim (λ (lt : d + g < e). omega arith)
      (λ (ge : e ≤ d + g).
      let eq : d + g ≡ e = omega arith in
      let hb : home_slot n k' < n = home_below n k' pos in
      let there : slot_ahead n hole g ≡ slot_ahead n (home_slot n k') e =
      ap (λ (x : ℕ). slot_ahead n x g) (sym at) ∙ ahead_add n (home_slot n k') d g hb (omega arith)
      ∙ ap (slot_ahead n (home_slot n k')) eq in
      let kk : k ≡ k' = full_key (slot_at ss (slot_ahead n hole g)) k k' v v' here (ap (slot_at ss) there ∙ p) in
      let hh : home_slot n k ≡ home_slot n k' = ap (home_slot n) kk in
      let a : steps_between n (home_slot n k) (slot_ahead n hole g) ≡ e =
      ap (λ (x : ℕ). steps_between n x (slot_ahead n hole g)) hh ∙ ap (steps_between n (home_slot n k')) there
      ∙ steps_ahead n (home_slot n k') e hb en in
      let b : steps_between n (home_slot n k) hole ≡ d =
      ap (λ (x : ℕ). steps_between n x hole) hh ∙ ap (steps_between n (home_slot n k')) (sym at)
      ∙ steps_ahead n (home_slot n k') d hb (omega arith) in
      absurd (omega (arith, less, same, a, b, de)))
      (cases_lt (d + g) e)

  -- a record that the hole cuts off goes into it
  module _ (i : ℕ) (c : CutOff n ss hole i) where
    abbrev k : Key
    k = c.key

    abbrev v : V
    v = c.value

    abbrev us : List (Slot V)
    us = set ss i None

    abbrev ts : List (Slot V)
    ts = set us hole (holding k v)

    apart : hole ≡ i → ⊥
    apart e = empty_full (slot_at ss hole) k v h.bare (ap (slot_at ss) e ∙ c.here)

    there : i < length ss
    there = omega (arith, len, c.inside)

    there' : hole < length us
    there' = omega (arith, length-set ss i None, len, h.inside)

    lifted : Written ss us k None
    lifted = put_empty n ss len h.distinct k v i c.inside c.here

    bare' : slot_at us hole ≡ None
    bare' = get_or-set_other ss i hole None None apart ∙ h.bare

    placed : Written us ts k (Some v)
    placed =
        put_full n us (length-set ss i None ∙ len) lifted.distinct k v hole h.inside
        (λ j _ w p. none-some w (sym lifted.becomes.here ∙ lookup_here us j k w lifted.distinct p))
        (λ q _. empty_misses (slot_at us hole) q bare')

    -- an empty slot other than i was empty, and is not the hole
    only : (c : Cut n ts) → slot_ahead n (home_slot n c.0) c.2 ≡ i
    only (q, w, d, e, en, p, de, z) =
        let a : ℕ = slot_ahead n (home_slot n q) d in
        ⊎_elim (λ (o : (a ≡ hole) × (holding k v ≡ None)). absurd (empty_full (holding k v) k v o.1 refl))
        (λ (z' : slot_at us a ≡ None).
        ⊎_elim (λ (o : (a ≡ i) × (None ≡ None)). o.0) (λ (z'' : slot_at ss a ≡ None). absurd (cut q w d e en p de z z''))
        (was ss i None a None there z'))
        (was us hole (holding k v) a None there' z)
      where
        cut :
            (q : Key) (w : V) (d e : ℕ) → e < n → slot_at ts (slot_ahead n (home_slot n q) e) ≡ holding q w → d < e
            → slot_at ts (slot_ahead n (home_slot n q) d) ≡ None → slot_at ss (slot_ahead n (home_slot n q) d) ≡ None → ⊥
        cut q w d e en p de z z'' =
            let not_hole : slot_ahead n (home_slot n q) d ≡ hole → ⊥ =
            λ x. empty_full (slot_at ts hole) k v (ap (slot_at ts) (sym x) ∙ z) (get_or-set_same us hole (holding k v) None there') in
            ⊎_elim
            (λ (o : (slot_ahead n (home_slot n q) e ≡ hole) × (holding k v ≡ holding q w)).
            let kk : k ≡ q = full_key (holding k v) k q v w refl o.1 in
            let hb : home_slot n k < n = home_below n k pos in
            let hh : home_slot n k ≡ home_slot n q = ap (home_slot n) kk in
            let back : slot_ahead n (home_slot n k) d ≡ slot_ahead n (home_slot n q) d = ap (λ (x : ℕ). slot_ahead n x d) hh in
            let at_hole : steps_between n (home_slot n k) hole ≡ e =
            ap (steps_between n (home_slot n k)) (sym (ap (λ (x : ℕ). slot_ahead n x e) hh ∙ o.0))
            ∙ steps_ahead n (home_slot n k) e hb en in
            not_hole
            (sym back
            ∙ h.reached (
              k,
              v,
              d,
              steps_between n (home_slot n k) i,
              steps_below n (home_slot n k) i hb c.inside,
              ap (slot_at ss) (ahead_steps n (home_slot n k) i hb c.inside) ∙ c.here,
              omega (arith, at_hole, de, c.before),
              ap (slot_at ss) back ∙ z'',
            )))
            (λ (p' : slot_at us (slot_ahead n (home_slot n q) e) ≡ holding q w).
            ⊎_elim (λ (o : (slot_ahead n (home_slot n q) e ≡ i) × (None ≡ holding q w)). empty_full None q w refl o.1)
            (λ (p'' : slot_at ss (slot_ahead n (home_slot n q) e) ≡ holding q w).
            not_hole (h.reached (q, w, d, e, en, p'', de, z'')))
            (was ss i None (slot_ahead n (home_slot n q) e) (holding q w) there p'))
            (was us hole (holding k v) (slot_ahead n (home_slot n q) e) (holding q w) there' p)

    pub moved :
        (r : Slot V) (xs ys : List (Slot V)) → r ≡ slot_at ss i → xs ≡ set ss i None → ys ≡ set xs hole r → Moved n ss ys i
    moved r xs ys is emptied written =
        subst (λ (x : List (Slot V)). Moved n ss x i)
        (sym (written ∙ ap (λ (x : List (Slot V)). set x hole r) emptied ∙ ap (set us hole) (is ∙ c.here))) (
        record {
          holed = record {
            distinct = placed.distinct;
            inside = c.inside;
            bare = get_or-set_other us hole i (holding k v) None (λ e. apart (sym e)) ∙ get_or-set_same ss i None None there;
            reached = only;
          };
          alike = record {
            size = omega (arith, size_set us hole (holding k v) there', ap filled bare', size_set ss i None there, ap filled c.here);
            lookup = λ q.
                ⊎_elim
                (λ (e : q ≡ k).
                ap (lookup ts) e ∙ placed.becomes.here ∙ sym (lookup_here ss i k v h.distinct c.here) ∙ ap (lookup ss) (sym e))
                (λ (d : q ≡ k → ⊥). placed.becomes.other q d ∙ lifted.becomes.other q d) (key_cases q k);
          };
          nearer = drift_moved n ss hole i len h.inside h.bare c;
        }
        )
