-- What renumber and compact make of an accepted list begins what they make of one that goes on.
use Rattle.std.proofs.Common.{◌≡◌, ℕ, suc, Bool, true, false, cond, ◌||◌, eqb, List, [], ◌∷◌, ◌++◌, map, sym, refl, ap, ◌∙◌, subst, append_assoc, append-nil}
use Rattle.std.proofs.lemmas.Bool.{or_right}
use Rattle.std.proofs.lemmas.List.{map-append}
use Rattle.std.proofs.lemmas.List.Elements.{filter-append}
use Rattle.std.specs.List.{flat_map, AllByRecursion as All}
use Rattle.mesh_stream.specs.declared.event.Event.{Event}
use Rattle.mesh_stream.specs.declared.event.Event.TheVariants.{Vertex, Triangle, Finalization}
use Rattle.mesh_stream.specs.Lists.{has}
use Rattle.mesh_stream.specs.Events.{introduced, finalized}
use Rattle.mesh_stream.specs.Meaning.{Begins}
use Rattle.mesh_judge.specs.Accepting.{refusal, Accepted, AcceptedAfter}
use Rattle.mesh_rules.specs.Rewriting.{renamed, count_before, position, renumbered, named, introduces, introduction, unseen, moved, compacted}
use Rattle.mesh_stream.proofs.Having.{Within, has_self, not_has_nil}
use Rattle.mesh_stream.proofs.Views.{introduced-++}
use Rattle.mesh_rules.proofs.Having.{has-++}
use Rattle.mesh_rules.proofs.Views.{named-++}
use Rattle.mesh_rules.proofs.Numbering.{Loosely, loosely}
use Rattle.mesh_rules.proofs.Introducing.{not_again, not_named}
use Rattle.mesh_rules.proofs.Compacting.{of_three, moved_loosely}
use Rattle.mesh_rules.proofs.Naming.{Known, all_known, map_agree_on}

-- a number's place in a list that goes on
pub count_before_stays : (xs ys : List ℕ) (n : ℕ) → has n xs ≡ true → count_before (xs ++ ys) n ≡ count_before xs n
count_before_stays [] ys n h = absurd (not_has_nil n h)
count_before_stays (x ∷ xs) ys n h = at (eqb n x) h (count_before_stays xs ys n)
  where
    at : (b : Bool) → (b || has n xs) ≡ true → (has n xs ≡ true → count_before (xs ++ ys) n ≡ count_before xs n)
        → cond b 0 (suc (count_before (xs ++ ys) n)) ≡ cond b 0 (suc (count_before xs n))
    at true k ih = refl
    at false k ih = ap suc (ih k)

-- what is renamed alike
renamed_alike : (f g : ℕ → ℕ) (ns : List ℕ) → ((n : ℕ) → has n ns ≡ true → f n ≡ g n) → (e : Event) → Known ns e → renamed f e ≡ renamed g e
renamed_alike f g ns same (Vertex l n v) h = ap (λ z. Vertex l z v) (same n h)
renamed_alike f g ns same (Triangle l a b c) (ha, hb, hc) =
    ap (λ z. Triangle l z (f b) (f c)) (same a ha) ∙ ap (λ z. Triangle l (g a) z (f c)) (same b hb)
    ∙ ap (λ z. Triangle l (g a) (g b) z) (same c hc)
renamed_alike f g ns same (Finalization l i) h = ap (λ z. Finalization l z) (same i h)

-- A list all of whose numbers are its own, with more behind it.
pub renumbered_more : (xs ys : List Event) → All (Known (introduced xs)) xs
    → renumbered (xs ++ ys) ≡ renumbered xs ++ map (renamed (position (introduced xs ++ introduced ys))) ys
renumbered_more xs ys known =
    ap (λ (z : List ℕ). map (renamed (position z)) (xs ++ ys)) (introduced-++ xs ys) ∙ map-append (renamed f) xs ys
    ∙ ap (λ (z : List Event). z ++ map (renamed f) ys)
    (map_agree_on (Known (introduced xs)) (renamed f) (renamed (position (introduced xs)))
    (renamed_alike f (position (introduced xs)) (introduced xs) same) xs known)
  where
    f : ℕ → ℕ
    f = position (introduced xs ++ introduced ys)

    same : (n : ℕ) → has n (introduced xs) ≡ true → position (introduced xs ++ introduced ys) n ≡ position (introduced xs) n
    same n k = ap suc (count_before_stays (introduced xs) (introduced ys) n k)

loosely_begins : (limit : ℕ) (xs ys : List Event) → Loosely limit [] xs → Begins (renumbered xs) (renumbered (xs ++ ys))
loosely_begins limit xs ys h = (map (renamed (position (introduced xs ++ introduced ys))) ys, renumbered_more xs ys (all_known limit xs h))

pub renumbered_begins : (limit : ℕ) (xs ys : List Event) → Accepted (refusal limit) xs → Begins (renumbered xs) (renumbered (xs ++ ys))
renumbered_begins limit xs ys ok = loosely_begins limit xs ys (loosely limit xs ok)

-- the vertices that triangles have named after a list
abbrev pub seen_after : List ℕ → List Event → List ℕ
seen_after seen [] = seen
seen_after seen (Vertex l n v ∷ es) = seen_after seen es
seen_after seen (Triangle l a b c ∷ es) = seen_after (a ∷ b ∷ c ∷ seen) es
seen_after seen (Finalization l i ∷ es) = seen_after seen es

moved-++ : (all xs ys : List Event) (seen : List ℕ) → moved all seen (xs ++ ys) ≡ moved all seen xs ++ moved all (seen_after seen xs) ys
moved-++ all [] ys seen = refl
moved-++ all (Vertex l n v ∷ xs) ys seen = moved-++ all xs ys seen
moved-++ all (Triangle l a b c ∷ xs) ys seen =
    let us : List Event = flat_map (introduction all) (unseen seen (a ∷ b ∷ c ∷ [])) in
    ap (λ (z : List Event). us ++ (Triangle l a b c ∷ z)) (moved-++ all xs ys (a ∷ b ∷ c ∷ seen))
    ∙ sym (append_assoc us (Triangle l a b c ∷ moved all (a ∷ b ∷ c ∷ seen) xs) (moved all (seen_after (a ∷ b ∷ c ∷ seen) xs) ys))
moved-++ all (Finalization l i ∷ xs) ys seen =
    let us : List Event = cond (has i (named all)) (Finalization l i ∷ []) [] in
    ap (λ (z : List Event). us ++ z) (moved-++ all xs ys seen)
    ∙ sym (append_assoc us (moved all seen xs) (moved all (seen_after seen xs) ys))

flat_map_alike : (f g : ℕ → List Event) (ns seen : List ℕ) → ((n : ℕ) → has n ns ≡ true → f n ≡ g n)
    → flat_map f (unseen seen ns) ≡ flat_map g (unseen seen ns)
flat_map_alike f g [] seen h = refl
flat_map_alike f g (n ∷ ns) seen h =
    at (has n seen) (flat_map_alike f g ns seen (λ m k. h m (or_right _ _ k))) (flat_map_alike f g ns (n ∷ seen) (λ m k. h m (or_right _ _ k)))
  where
    at : (b : Bool) → flat_map f (unseen seen ns) ≡ flat_map g (unseen seen ns)
        → flat_map f (unseen (n ∷ seen) ns) ≡ flat_map g (unseen (n ∷ seen) ns)
        → flat_map f (cond b (unseen seen ns) (n ∷ unseen (n ∷ seen) ns)) ≡ flat_map g (cond b (unseen seen ns) (n ∷ unseen (n ∷ seen) ns))
    at true p q = p
    at false p q =
        ap (λ (z : List Event). z ++ flat_map f (unseen (n ∷ seen) ns)) (h n (has_self n ns)) ∙ ap (λ (z : List Event). g n ++ z) q

or_none : (a b : Bool) → b ≡ false → a ≡ (a || b)
or_none true b e = refl
or_none false b e = sym e

module _ (limit : ℕ) (xs ys : List Event) (ok : Accepted (refusal limit) xs) (goes_on : AcceptedAfter (refusal limit) xs ys) where
  pub same_vertex : (n : ℕ) → has n (introduced xs) ≡ true → introduction xs n ≡ introduction (xs ++ ys) n
  same_vertex n h =
      sym (filter-append (introduces n) xs ys ∙ ap (λ (z : List Event). introduction xs n ++ z) (not_again limit n ys xs goes_on h) ∙ append-nil (introduction xs n))

  same_named : (n : ℕ) → has n (finalized xs) ≡ true → has n (named xs) ≡ has n (named (xs ++ ys))
  same_named n h =
      or_none (has n (named xs)) (has n (named ys)) (not_named limit n ys xs goes_on h)
      ∙ sym (ap (has n) (named-++ xs ys) ∙ has-++ n (named xs) (named ys))

  -- what is moved, by the list and by the one that goes on
  moved_alike : (rest : List Event) (seen : List ℕ) → Within (finalized rest) (finalized xs) → All (Known (introduced xs)) rest
      → moved xs seen rest ≡ moved (xs ++ ys) seen rest
  moved_alike [] seen w k = refl
  moved_alike (Vertex l n v ∷ rest) seen w (h, k) = moved_alike rest seen w k
  moved_alike (Triangle l a b c ∷ rest) seen w ((ha, hb, hc), k) =
      ap (λ (z : List Event). z ++ (Triangle l a b c ∷ moved xs (a ∷ b ∷ c ∷ seen) rest))
      (flat_map_alike (introduction xs) (introduction (xs ++ ys)) (a ∷ b ∷ c ∷ []) seen corner)
      ∙ ap (λ (z : List Event). flat_map (introduction (xs ++ ys)) (unseen seen (a ∷ b ∷ c ∷ [])) ++ (Triangle l a b c ∷ z)) (moved_alike rest (a ∷ b ∷ c ∷ seen) w k)
    where
      corner : (n : ℕ) → has n (a ∷ b ∷ c ∷ []) ≡ true → introduction xs n ≡ introduction (xs ++ ys) n
      corner = of_three (λ n. introduction xs n ≡ introduction (xs ++ ys) n) a b c (same_vertex a ha) (same_vertex b hb) (same_vertex c hc)
  moved_alike (Finalization l i ∷ rest) seen w (h, k) =
      ap (λ b. cond b (Finalization l i ∷ []) [] ++ moved xs seen rest) (same_named i (w i (has_self i (finalized rest))))
      ∙ ap (λ (z : List Event). cond (has i (named (xs ++ ys))) (Finalization l i ∷ []) [] ++ z) (moved_alike rest seen (λ n q. w n (or_right _ _ q)) k)

  pub moved_more : moved (xs ++ ys) [] (xs ++ ys) ≡ moved xs [] xs ++ moved (xs ++ ys) (seen_after [] xs) ys
  moved_more =
      moved-++ (xs ++ ys) xs ys []
      ∙ ap (λ (z : List Event). z ++ moved (xs ++ ys) (seen_after [] xs) ys) (sym (moved_alike xs [] (λ n h. h) (all_known limit xs (loosely limit xs ok))))

  pub compacted_begins : Begins (compacted xs) (compacted (xs ++ ys))
  compacted_begins =
      subst (λ (z : List Event). Begins (compacted xs) (renumbered z)) (sym moved_more)
      (loosely_begins limit (moved xs [] xs) (moved (xs ++ ys) (seen_after [] xs) ys) (moved_loosely limit xs ok))
