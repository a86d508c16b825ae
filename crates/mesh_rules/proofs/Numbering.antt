-- A list whose vertices have different numbers, renumbered: renumber, and the second half of compact.
use Rattle.std.proofs.Common.{◌≡◌, ℕ, suc, ◌+◌, ◌<◌, ◌≤◌, Bool, true, false, cond, not, ◌||◌, eqb, List, [], ◌∷◌, ◌++◌, map, length, None, filter, sym, refl, ap, ◌∙◌, subst, append_assoc, arith, length-append}
use Rattle.std.proofs.lemmas.Bool.{and_parts, and_from, both_ways, le-leb, eqb-true, eq-eqb, ne_eqb, eqb-false, or_right}
use Rattle.std.proofs.lemmas.List.{length-map, map-append}
use Rattle.mesh_stream.specs.declared.event.Point.{Point}
use Rattle.mesh_stream.specs.declared.event.Event.{Event}
use Rattle.mesh_stream.specs.declared.event.Event.TheVariants.{Vertex, Triangle, Finalization}
use Rattle.mesh_stream.specs.Lists.{has, above_all}
use Rattle.mesh_stream.specs.Events.{introduced, finalized, triangles}
use Rattle.mesh_stream.specs.Live.{live, is_live}
use Rattle.mesh_stream.specs.Ranges.{in_space, vertex_number}
use Rattle.mesh_judge.specs.Accepting.{refusal, Accepted, AcceptedAfter}
use Rattle.mesh_rules.specs.Rewriting.{renamed, count_before, position, renumbered}
use Rattle.mesh_stream.proofs.Having.{kept_yes, kept_no, Within, has_left, has_self, not_has_nil, above_not_has}
use Rattle.mesh_stream.proofs.Views.{introduced-++}
use Rattle.mesh_judge.proofs.Refusing.{TriangleOk, vertex_ok, triangle_ok, final_ok}
use Rattle.mesh_rules.proofs.Having.{has_map, above_map}
use Rattle.mesh_rules.proofs.Refusing.{ok_vertex, ok_triangle, ok_final}
use Rattle.mesh_rules.proofs.Bounding.{bounded, few_introduced}

-- Accepted but for the order of the numbers: they differ.
abbrev pub Loose : ℕ → List Event → Event → Type 0
Loose limit before (Vertex l n v) = (in_space v ≡ true) × (has n (introduced before) ≡ false) × (length (live before) < limit)
Loose limit before (Triangle l a b c) = TriangleOk before a b c
Loose limit before (Finalization l i) = is_live before i ≡ true

abbrev pub Loosely : ℕ → List Event → List Event → Type 0
Loosely limit before [] = Unit {0}
Loosely limit before (e ∷ es) = Loose limit before e × Loosely limit (before ++ (e ∷ [])) es

loose : (limit : ℕ) (before : List Event) (e : Event) → refusal limit before e ≡ None → Loose limit before e
loose limit before (Vertex l n v) h =
    let k = vertex_ok limit before l n v h in
    ((and_parts (in_space v) (vertex_number n) k.in_range).0, above_not_has n (introduced before) k.above, k.room)
loose limit before (Triangle l a b c) h = triangle_ok limit before l a b c h
loose limit before (Finalization l i) h = final_ok limit before l i h

loosely_after : (limit : ℕ) (es before : List Event) → AcceptedAfter (refusal limit) before es → Loosely limit before es
loosely_after limit [] before h = tt
loosely_after limit (e ∷ es) before (a, h) = (loose limit before e a, loosely_after limit es (before ++ (e ∷ [])) h)

pub loosely : (limit : ℕ) (es : List Event) → Accepted (refusal limit) es → Loosely limit [] es
loosely limit es h = loosely_after limit es [] h

-- what a list is when renamed
module _ (f : ℕ → ℕ) where
  pub introduced_renamed : (es : List Event) → introduced (map (renamed f) es) ≡ map f (introduced es)
  introduced_renamed [] = refl
  introduced_renamed (Vertex l n v ∷ es) = ap (λ (z : List ℕ). f n ∷ z) (introduced_renamed es)
  introduced_renamed (Triangle l a b c ∷ es) = introduced_renamed es
  introduced_renamed (Finalization l i ∷ es) = introduced_renamed es

  finalized_renamed : (es : List Event) → finalized (map (renamed f) es) ≡ map f (finalized es)
  finalized_renamed [] = refl
  finalized_renamed (Vertex l n v ∷ es) = finalized_renamed es
  finalized_renamed (Triangle l a b c ∷ es) = finalized_renamed es
  finalized_renamed (Finalization l i ∷ es) = ap (λ (z : List ℕ). f i ∷ z) (finalized_renamed es)

  triangles_renamed : (es : List Event) → triangles (map (renamed f) es) ≡ triangles es
  triangles_renamed [] = refl
  triangles_renamed (Vertex l n v ∷ es) = triangles_renamed es
  triangles_renamed (Triangle l a b c ∷ es) = ap suc (triangles_renamed es)
  triangles_renamed (Finalization l i ∷ es) = triangles_renamed es

-- a renaming under which the numbers of a list keep apart from all others
module _ (f : ℕ → ℕ) (all : List ℕ) (apart : (m n : ℕ) → has n all ≡ true → f n ≡ f m → n ≡ m) where
  has_back : (n : ℕ) → has n all ≡ true → (xs : List ℕ) → has (f n) (map f xs) ≡ has n xs
  has_back n h [] = refl
  has_back n h (x ∷ xs) = at (eqb n x) refl (has_back n h xs)
    where
      at : (b : Bool) → eqb n x ≡ b → has (f n) (map f xs) ≡ has n xs → has (f n) (map f (x ∷ xs)) ≡ (b || has n xs)
      at true e ih = ap (λ b. b || has (f n) (map f xs)) (eq-eqb (f n) (f x) (ap f (eqb-true n x e)))
      at false e ih = ap (λ b. b || has (f n) (map f xs)) (ne_eqb (f n) (f x) (λ k. eqb-false n x e (apart x n h k))) ∙ ih

  -- what is left of a list without some numbers
  abbrev without : List ℕ → List ℕ → List ℕ
  without fs is = filter (λ n. not (has n fs)) is

  without_map : (fs is : List ℕ) → Within is all → without (map f fs) (map f is) ≡ map f (without fs is)
  without_map fs [] w = refl
  without_map fs (n ∷ is) w = at (has n fs) refl (without_map fs is (λ m h. w m (or_right _ _ h)))
    where
      same : has (f n) (map f fs) ≡ has n fs
      same = has_back n (w n (has_self n is)) fs

      at : (b : Bool) → has n fs ≡ b → without (map f fs) (map f is) ≡ map f (without fs is)
          → without (map f fs) (map f (n ∷ is)) ≡ map f (without fs (n ∷ is))
      at true e ih =
          rw (kept_no (λ m. not (has m fs)) n is (ap not e), kept_no (λ m. not (has m (map f fs))) (f n) (map f is) (ap not (same ∙ e))) ih
      at false e ih =
          rw (kept_yes (λ m. not (has m fs)) n is (ap not e), kept_yes (λ m. not (has m (map f fs))) (f n) (map f is) (ap not (same ∙ e)))
          (ap (λ (z : List ℕ). f n ∷ z) ih)

  live_renamed : (es : List Event) → Within (introduced es) all → live (map (renamed f) es) ≡ map f (live es)
  live_renamed es w =
      ap (λ (is : List ℕ). without (finalized (map (renamed f) es)) is) (introduced_renamed f es)
      ∙ ap (λ (fs : List ℕ). without fs (map f (introduced es))) (finalized_renamed f es)
      ∙ without_map (finalized es) (introduced es) w

-- a number's place in a list
count_before_has : (xs ys : List ℕ) (n : ℕ) → has n xs ≡ true → count_before (xs ++ ys) n < length xs
count_before_has [] ys n h = absurd (not_has_nil n h)
count_before_has (x ∷ xs) ys n h = at (eqb n x) h (count_before_has xs ys n)
  where
    at : (b : Bool) → (b || has n xs) ≡ true → (has n xs ≡ true → count_before (xs ++ ys) n < length xs)
        → cond b 0 (suc (count_before (xs ++ ys) n)) < suc (length xs)
    at true k ih = omega arith
    at false k ih = let l = ih k in omega arith

pub count_before_new : (xs ys : List ℕ) (n : ℕ) → has n xs ≡ false → count_before (xs ++ (n ∷ ys)) n ≡ length xs
count_before_new [] ys n h = ap (λ b. cond b 0 (suc (count_before ys n))) (eq-eqb n n refl)
count_before_new (x ∷ xs) ys n h = at (eqb n x) h (count_before_new xs ys n)
  where
    at : (b : Bool) → (b || has n xs) ≡ false → (has n xs ≡ false → count_before (xs ++ (n ∷ ys)) n ≡ length xs)
        → cond b 0 (suc (count_before (xs ++ (n ∷ ys)) n)) ≡ suc (length xs)
    at true k ih = absurd (both_ways true k refl)
    at false k ih = ap suc (ih k)

count_before_apart : (xs : List ℕ) (m n : ℕ) → has n xs ≡ true → count_before xs n ≡ count_before xs m → n ≡ m
count_before_apart [] m n h e = absurd (not_has_nil n h)
count_before_apart (x ∷ xs) m n h e = at (eqb n x) (eqb m x) refl refl h e (count_before_apart xs m n)
  where
    at : (b c : Bool) → eqb n x ≡ b → eqb m x ≡ c → (b || has n xs) ≡ true
        → cond b 0 (suc (count_before xs n)) ≡ cond c 0 (suc (count_before xs m))
        → (has n xs ≡ true → count_before xs n ≡ count_before xs m → n ≡ m) → n ≡ m
    at true true p q k g ih = eqb-true n x p ∙ sym (eqb-true m x q)
    at true false p q k g ih = absurd (let y : ⊥ = omega arith in y)
    at false true p q k g ih = absurd (let y : ⊥ = omega arith in y)
    at false false p q k g ih = ih k (omega arith)

position_apart : (xs : List ℕ) (m n : ℕ) → has n xs ≡ true → position xs n ≡ position xs m → n ≡ m
position_apart xs m n h e = count_before_apart xs m n h (omega arith)

-- One event more: its list introduced some of the numbers, and the others are still to come.
module _ (limit : ℕ) (all : List ℕ) (before : List Event) where
  abbrev done : List Event
  done = map (renamed (position all)) before

  module _ (later : List ℕ) (is_all : all ≡ introduced before ++ later) where
    lives : live done ≡ map (position all) (live before)
    lives = live_renamed (position all) all (position_apart all) before (λ n k. ap (has n) is_all ∙ has_left n (introduced before) later k)

    stays : (n : ℕ) → is_live before n ≡ true → is_live done (position all n) ≡ true
    stays n k = ap (has (position all n)) lives ∙ has_map (position all) n (live before) k

    triangle_renamed : (l a b c : ℕ) → TriangleOk before a b c → refusal limit done (renamed (position all) (Triangle l a b c)) ≡ None
    triangle_renamed l a b c k = ok_triangle limit done l (position all a) (position all b) (position all c) (record {
      first = stays a k.first;
      second = stays b k.second;
      third = stays c k.third;
      few = omega (arith, k.few, triangles_renamed (position all) before);
    })

    final_renamed : (l i : ℕ) → is_live before i ≡ true → refusal limit done (renamed (position all) (Finalization l i)) ≡ None
    final_renamed l i k = ok_final limit done l (position all i) (stays i k)

  vertex_renamed : length all ≤ 100000000 → (l n : ℕ) (v : Point) (later : List ℕ) → all ≡ introduced before ++ (n ∷ later)
      → Loose limit before (Vertex l n v) → refusal limit done (renamed (position all) (Vertex l n v)) ≡ None
  vertex_renamed few l n v later is_all (sp, new, room) =
      let at : count_before all n ≡ length (introduced before) = ap (λ (z : List ℕ). count_before z n) is_all ∙ count_before_new (introduced before) later n new in
      let long : length all ≡ length (introduced before) + suc (length later) = ap length is_all ∙ length-append (introduced before) (n ∷ later) in
      let lens : length (live done) ≡ length (live before) = ap length (lives (n ∷ later) is_all) ∙ length-map (live before) (position all) in
      ok_vertex limit done l (position all n) v (record {
        in_range = and_from _ _ sp (and_from _ _ (le-leb 1 (position all n) (omega arith)) (le-leb (position all n) 100000000 (omega arith)));
        above = ap (above_all (position all n)) (introduced_renamed (position all) before)
            ∙ above_map (position all) (position all n) (introduced before) (λ m k. let s = sooner m k in omega arith);
        room = omega arith;
      })
    where
      sooner : (m : ℕ) → has m (introduced before) ≡ true → count_before all m < length (introduced before)
      sooner m k =
          subst (λ (z : List ℕ). count_before z m < length (introduced before)) (sym is_all) (count_before_has (introduced before) (n ∷ later) m k)

module _ (limit : ℕ) (all : List ℕ) (few : length all ≤ 100000000) where
  renumbered_after : (es before : List Event) → all ≡ introduced before ++ introduced es → Loosely limit before es
      → AcceptedAfter (refusal limit) (map (renamed (position all)) before) (map (renamed (position all)) es)
  renumbered_after [] before e h = tt
  renumbered_after (x ∷ es) before e (a, h) =
      (here x e a, subst A (map-append (renamed (position all)) before (x ∷ [])) (renumbered_after es (before ++ (x ∷ [])) (e ∙ shift) h))
    where
      A : List Event → Type 0
      A z = AcceptedAfter (refusal limit) z (map (renamed (position all)) es)

      shift : introduced before ++ introduced (x ∷ es) ≡ introduced (before ++ (x ∷ [])) ++ introduced es
      shift =
          sym (introduced-++ before (x ∷ es)) ∙ ap introduced (sym (append_assoc before (x ∷ []) es))
          ∙ introduced-++ (before ++ (x ∷ [])) es

      here : (y : Event) → all ≡ introduced before ++ introduced (y ∷ es) → Loose limit before y
          → refusal limit (map (renamed (position all)) before) (renamed (position all) y) ≡ None
      here (Vertex l n v) i k = vertex_renamed limit all before few l n v (introduced es) i k
      here (Triangle l a b c) i k = triangle_renamed limit all before (introduced es) i l a b c k
      here (Finalization l j) i k = final_renamed limit all before (introduced es) i l j k

pub loosely_renumbered : (limit : ℕ) (es : List Event) → length (introduced es) ≤ 100000000 → Loosely limit [] es
    → Accepted (refusal limit) (renumbered es)
loosely_renumbered limit es few h = renumbered_after limit (introduced es) few es [] refl h

-- Renumber keeps a list accepted, under the same limit, and leaves no vertex live that was not.
pub renumbered_accepted : (limit : ℕ) (es : List Event) → Accepted (refusal limit) es → Accepted (refusal limit) (renumbered es)
renumbered_accepted limit es ok = loosely_renumbered limit es (few_introduced limit es (bounded limit es ok)) (loosely limit es ok)

pub renumbered_none_live : (es : List Event) → live es ≡ [] → live (renumbered es) ≡ []
renumbered_none_live es e =
    live_renamed (position (introduced es)) (introduced es) (position_apart (introduced es)) es (λ n h. h)
    ∙ ap (map (position (introduced es))) e
