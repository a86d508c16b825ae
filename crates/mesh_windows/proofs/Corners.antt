-- The corners of one triangle: those that are pending get their numbers, one after the other.
use Rattle.std.proofs.Common.{◌≡◌, ℕ, suc, ◌≤◌, Bool, true, false, cond, ◌||◌, eqb, List, [], ◌∷◌, ◌++◌, map, length, Some, None, Option, sym, refl, ap, ◌∙◌, subst, append_assoc, append-nil, length-append, arith}
use Rattle.std.proofs.lemmas.Bool.{eqb-true, or_right}
use Rattle.mesh_stream.specs.declared.event.Event.{Event}
use Rattle.mesh_stream.specs.declared.event.Event.TheVariants.{Vertex}
use Rattle.mesh_stream.specs.Lists.{has}
use Rattle.mesh_stream.specs.Events.{point, birthplace}
use Rattle.mesh_stream.specs.Live.{is_live}
use Rattle.mesh_stream.proofs.Having.{has_self}
use Rattle.mesh_judge.specs.declared.live.Live.{Live}
use Rattle.mesh_rules.specs.Rewriting.{position, unseen}
use Rattle.mesh_rules.proofs.Having.{has_right}
use Rattle.mesh_rules.proofs.Numbering.{count_before_new}
use Rattle.mesh_rules.proofs.Moving.{has_end}
use Rattle.mesh_windows.specs.Windowing.{Memory}
use Rattle.mesh_windows.specs.Working.{next_number, if_unnumbered, pending, mark_if, mark_all, brought_if, brought_all}
use Rattle.mesh_windows.proofs.Recalling.{holds, living, lives_same}
use Rattle.mesh_windows.proofs.Renumbering.{position_stays, next_is}
use Rattle.mesh_windows.proofs.Unseen.{unseen_same}
use Rattle.mesh_windows.proofs.Handed.{under}

-- What is noted of vertex n once the vertices xs got their numbers, in this order.
abbrev pub note_by : List ℕ → ℕ → Option ℕ
note_by xs n = cond (has n xs) (Some (position xs n)) None

note_new : (xs : List ℕ) (n : ℕ) → has n xs ≡ false → note_by (xs ++ (n ∷ [])) n ≡ Some (suc (length xs))
note_new xs n h =
    ap (λ b. cond b (Some (position (xs ++ (n ∷ [])) n)) None) (has_right n xs (n ∷ []) (has_self n []))
    ∙ ap (λ (z : ℕ). Some (suc z)) (count_before_new xs [] n h)

note_other : (xs : List ℕ) (n m : ℕ) → eqb m n ≡ false → note_by (xs ++ (n ∷ [])) m ≡ note_by xs m
note_other xs n m q =
    ap (λ b. cond b (Some (position (xs ++ (n ∷ [])) m)) None) (has_end m n xs ∙ ap (λ b. b || has m xs) q) ∙ at (has m xs) refl
  where
    at : (b : Bool) → has m xs ≡ b → cond b (Some (position (xs ++ (n ∷ [])) m)) None ≡ cond b (Some (position xs m)) None
    at true k = ap (λ (z : ℕ). Some z) (position_stays xs (n ∷ []) m k)
    at false k = refl

-- No more numbers are given than vertices may have.
abbrev pub Few : List ℕ → Type 0
Few xs = length xs ≤ 100000000

few_left : (xs ys : List ℕ) → Few (xs ++ ys) → Few xs
few_left xs ys f = let e = length-append xs ys in omega arith

-- the first of the unseen numbers gets its number before the others
unseen_next : (n : ℕ) (ns xs : List ℕ) → unseen (xs ++ (n ∷ [])) ns ≡ unseen (n ∷ xs) ns
unseen_next n ns xs = unseen_same ns (xs ++ (n ∷ [])) (n ∷ xs) (λ m. has_end m n xs)

few_next : (n : ℕ) (ns xs : List ℕ) → Few (xs ++ (n ∷ unseen (n ∷ xs) ns)) → Few ((xs ++ (n ∷ [])) ++ unseen (xs ++ (n ∷ [])) ns)
few_next n ns xs f =
    subst Few (sym (append_assoc xs (n ∷ []) (unseen (xs ++ (n ∷ [])) ns) ∙ ap (λ (z : List ℕ). xs ++ (n ∷ z)) (unseen_next n ns xs))) f

module _ (es : List Event) where
  -- what is at each number after the list, once the vertices xs got their numbers
  abbrev pub live_one : List ℕ → ℕ → Live (Option ℕ)
  live_one xs n = living (λ z. note_by xs) es n

  abbrev pub kept : List ℕ → ℕ → Option (Live (Option ℕ))
  kept xs n = holds (λ z. note_by xs) es n

  pub record Marked (m : Memory (Option ℕ)) (xs : List ℕ) : Type 0 where
    pub at : (n : ℕ) → m.window.at n ≡ kept xs n
    pub given : m.given ≡ length xs

  -- Marking the corners ns brings the vertices us, which are those without numbers.
  pub record Walked (m : Memory (Option ℕ)) (xs ns us : List ℕ) : Type 0 where
    pub marked : Marked (mark_all m ns) (xs ++ us)
    pub brings : brought_all m ns ≡ map (under es (position (xs ++ us))) us

  -- the same where the first corner was looked up
  record WalkedBy (m : Memory (Option ℕ)) (xs : List ℕ) (n : ℕ) (ns us : List ℕ) (o : Option (Live (Option ℕ))) : Type 0 where
    marked : Marked (mark_all (mark_if m n o) ns) (xs ++ us)
    brings : brought_if m o ++ brought_all (mark_if m n o) ns ≡ map (under es (position (xs ++ us))) us

  module _ (m : Memory (Option ℕ)) (xs : List ℕ) (k : Marked m xs) where
    pub marked_at : (n : ℕ) → is_live es n ≡ true → m.window.at n ≡ Some (live_one xs n)
    marked_at n l = k.at n ∙ ap (λ b. cond b (Some (live_one xs n)) None) l

    next_given : Few xs → next_number m.given ≡ suc (length xs)
    next_given few = ap next_number k.given ∙ next_is (length xs) few

    -- a corner
    module _ (n : ℕ) (l : is_live es n ≡ true) where
      pending_by : (b : Bool) → has n xs ≡ b → pending (m.window.at n) ≡ if_unnumbered (live_one xs n) (cond b (Some (position xs n)) None)
      pending_by b h =
          ap pending (marked_at n l) ∙ ap (λ b. if_unnumbered (live_one xs n) (cond b (Some (position xs n)) None)) h

      looked_up : (ns us : List ℕ) (o : Option (Live (Option ℕ))) → pending (m.window.at n) ≡ o → WalkedBy m xs n ns us o
          → Walked m xs (n ∷ ns) us
      looked_up ns us o e w =
          let v : WalkedBy m xs n ns us (pending (m.window.at n)) = subst (WalkedBy m xs n ns us) (sym e) w in
          record { marked = v.marked; brings = v.brings }

      -- that has its number
      walk_numbered : (ns us : List ℕ) → has n xs ≡ true → Walked m xs ns us → Walked m xs (n ∷ ns) us
      walk_numbered ns us h w = looked_up ns us None (pending_by true h) (record { marked = w.marked; brings = w.brings })

      -- that is pending
      module _ (h : has n xs ≡ false) (few : Few xs) where
        abbrev marking : Memory (Option ℕ)
        marking = mark_if m n (Some (live_one xs n))

        new : Live (Option ℕ)
        new = record { place = birthplace es n; at = point es n; note = Some (next_number m.given) }

        new_is : new ≡ live_one (xs ++ (n ∷ [])) n
        unfolding new
        new_is = lives_same _ _ refl refl (ap (λ (z : ℕ). Some z) (next_given few) ∙ sym (note_new xs n h))

        at_one : (i : ℕ) (b : Bool) → eqb i n ≡ b → cond b (Some new) (m.window.at i) ≡ kept (xs ++ (n ∷ [])) i
        at_one i true q =
            ap (λ (z : Live (Option ℕ)). Some z) new_is ∙ sym (ap (λ b. cond b (Some (live_one (xs ++ (n ∷ [])) n)) None) l)
            ∙ ap (kept (xs ++ (n ∷ []))) (sym (eqb-true i n q))
        at_one i false q = k.at i ∙ ap with_note (sym (note_other xs n i q))
          where
            with_note : Option ℕ → Option (Live (Option ℕ))
            with_note t = cond (is_live es i) (Some (record { place = birthplace es i; at = point es i; note = t })) None

        marked_one : Marked marking (xs ++ (n ∷ []))
        unfolding new
        marked_one = record {
          at = λ i. at_one i (eqb i n) refl;
          given = let e = next_given few in let q = length-append xs (n ∷ []) in omega arith;
        }

        first_brought : (ns us : List ℕ) → Walked marking (xs ++ (n ∷ [])) ns us → WalkedBy m xs n ns (n ∷ us) (Some (live_one xs n))
        first_brought ns us w = record {
          marked = subst (Marked (mark_all marking ns)) shift w.marked;
          brings =
              ap (λ (z : ℕ). Vertex (birthplace es n) z (point es n) ∷ brought_all marking ns)
              (next_given few ∙ ap suc (sym (count_before_new xs us n h)))
              ∙ ap (λ (z : List Event). under es (position (xs ++ (n ∷ us))) n ∷ z)
              (w.brings ∙ ap (λ (z : List ℕ). map (under es (position z)) us) shift);
        }
          where
            shift : (xs ++ (n ∷ [])) ++ us ≡ xs ++ (n ∷ us)
            shift = append_assoc xs (n ∷ []) us

        walk_pending : (ns : List ℕ) → Walked marking (xs ++ (n ∷ [])) ns (unseen (xs ++ (n ∷ [])) ns)
            → Walked m xs (n ∷ ns) (n ∷ unseen (n ∷ xs) ns)
        walk_pending ns w =
            looked_up ns (n ∷ unseen (n ∷ xs) ns) (Some (live_one xs n)) (pending_by false h)
            (first_brought ns (unseen (n ∷ xs) ns) (subst (Walked marking (xs ++ (n ∷ [])) ns) (unseen_next n ns xs) w))

  abbrev Alive : List ℕ → Type 0
  Alive ns = (n : ℕ) → has n ns ≡ true → is_live es n ≡ true

  pub walk : (ns xs : List ℕ) (m : Memory (Option ℕ)) → Alive ns → Few (xs ++ unseen xs ns) → Marked m xs → Walked m xs ns (unseen xs ns)
  walk [] xs m l f k = record { marked = subst (Marked m) (sym (append-nil xs)) k; brings = refl }
  walk (n ∷ ns) xs m l f k =
      at (has n xs) refl f (λ g. walk ns xs m rest g k)
      (λ h g. walk ns (xs ++ (n ∷ [])) marking rest (few_next n ns xs g) (marked_one m xs k n here h (few_left xs _ g)))
    where
      marking : Memory (Option ℕ)
      marking = mark_if m n (Some (live_one xs n))

      here : is_live es n ≡ true
      here = l n (has_self n ns)

      rest : (i : ℕ) → has i ns ≡ true → is_live es i ≡ true
      rest i q = l i (or_right _ _ q)

      Later : Type 0
      Later = Walked marking (xs ++ (n ∷ [])) ns (unseen (xs ++ (n ∷ [])) ns)

      at : (b : Bool) → has n xs ≡ b → Few (xs ++ cond b (unseen xs ns) (n ∷ unseen (n ∷ xs) ns))
          → (Few (xs ++ unseen xs ns) → Walked m xs ns (unseen xs ns))
          → (has n xs ≡ false → Few (xs ++ (n ∷ unseen (n ∷ xs) ns)) → Later)
          → Walked m xs (n ∷ ns) (cond b (unseen xs ns) (n ∷ unseen (n ∷ xs) ns))
      at true h g old later = walk_numbered m xs k n here ns (unseen xs ns) h (old g)
      at false h g old later = walk_pending m xs k n here h (few_left xs _ g) ns (later h g)
