-- What compact moves is accepted but for the order of numbers, and no vertex is live in it that is not live below.
use Rattle.std.proofs.Common.{◌≡◌, ℕ, ◌+◌, ◌≤◌, Bool, true, false, cond, ◌||◌, eqb, ◌⊎◌, List, [], ◌∷◌, ◌++◌, length, sym, refl, ap, ◌∙◌, subst, inl, inr, append_assoc, append-nil, arith}
use Rattle.std.proofs.lemmas.Bool.{both_ways, eqb-true, or_cases}
use Rattle.mesh_stream.specs.declared.event.Point.{Point}
use Rattle.mesh_stream.specs.declared.event.Event.{Event}
use Rattle.mesh_stream.specs.declared.event.Event.TheVariants.{Vertex, Triangle, Finalization}
use Rattle.mesh_stream.specs.Lists.{has}
use Rattle.mesh_stream.specs.Events.{introduced, finalized}
use Rattle.mesh_stream.specs.Live.{live, is_live}
use Rattle.mesh_judge.specs.Accepting.{refusal, Accepted, AcceptedAfter}
use Rattle.mesh_rules.specs.Rewriting.{named, moved, compacted}
use Rattle.mesh_stream.proofs.Having.{Within, has_left, has_cases, has_self, not_has_nil}
use Rattle.mesh_stream.proofs.Views.{introduced-++, introduced_v, introduced_t, introduced_f, finalized_v, finalized_t, finalized_f, triangles_v, triangles_t, triangles_f}
use Rattle.mesh_stream.proofs.Distinct.{Distinct}
use Rattle.mesh_judge.proofs.Refusing.{TriangleOk, triangle_ok, final_ok}
use Rattle.mesh_rules.proofs.Having.{has_right, none_within_nil}
use Rattle.mesh_rules.proofs.Views.{named-++, named_v, named_t, named_f}
use Rattle.mesh_rules.proofs.Distinct.{no_more}
use Rattle.mesh_rules.proofs.Living.{live_not_final, live_from}
use Rattle.mesh_rules.proofs.Bounding.{Bounded, bounded, bounded_none, bounded_step, few_introduced}
use Rattle.mesh_rules.proofs.Numbering.{Loosely, loosely_renumbered, renumbered_none_live}
use Rattle.mesh_rules.proofs.Introducing.{has_differ, not_named, Introduced, introduced_once}
use Rattle.mesh_rules.proofs.Moving.{Leads, leads_loosely, Moving, has_end, same_seen, live_too, move_ins}

or_three : (x y z s : Bool) → (s || (x || (y || (z || false)))) ≡ (x || (y || (z || s)))
or_three true y z true = refl
or_three true y z false = refl
or_three false true z true = refl
or_three false true z false = refl
or_three false false true true = refl
or_three false false true false = refl
or_three false false false true = refl
or_three false false false false = refl

-- one of three numbers
pub of_three : (P : ℕ → Type 0) (a b c : ℕ) → P a → P b → P c → (n : ℕ) → has n (a ∷ b ∷ c ∷ []) ≡ true → P n
of_three P a b c pa pb pc n h = at (or_cases (eqb n a) _ h)
  where
    at : (eqb n a ≡ true) ⊎ (has n (b ∷ c ∷ []) ≡ true) → P n
    at (inl x) = subst P (sym (eqb-true n a x)) pa
    at (inr y) = elim (or_cases (eqb n b) _ y) [
      | inl x ↦ subst P (sym (eqb-true n b x)) pb
      | inr z ↦ elim (or_cases (eqb n c) _ z) [ inl x ↦ subst P (sym (eqb-true n c x)) pc | inr u ↦ absurd (both_ways false refl u) ]
    ]

-- One event more is taken.
module _ (all before : List Event) (l : ℕ) where
  took_vertex : (out : List Event) (seen : List ℕ) (n : ℕ) (v : Point) → Moving all before out seen
      → Moving all (before ++ (Vertex l n v ∷ [])) out seen
  took_vertex out seen n v w = record {
    moved_in = w.moved_in;
    differ = w.differ;
    finals = λ m k. w.finals m k ∙ sym (ap (has m) (finalized_v before l n v));
    as_many = w.as_many ∙ sym (triangles_v before l n v);
    known = λ m k. ap (has m) (introduced_v before l n v) ∙ has_left m (introduced before) (n ∷ []) (w.known m k);
    wanted = w.wanted;
    all_seen = λ m k. w.all_seen m (sym (ap (has m) (named_v before l n v)) ∙ k);
  }

  took_triangle : (out : List Event) (seen : List ℕ) (a b c : ℕ) → Moving all before out (a ∷ b ∷ c ∷ seen)
      → Moving all (before ++ (Triangle l a b c ∷ [])) (out ++ (Triangle l a b c ∷ [])) (a ∷ b ∷ c ∷ seen)
  took_triangle out seen a b c w = record {
    moved_in = λ n. ap (has n) (introduced_t out l a b c) ∙ w.moved_in n;
    differ = subst Distinct (sym (introduced_t out l a b c)) w.differ;
    finals = λ n k. ap (has n) (finalized_t out l a b c) ∙ w.finals n k ∙ sym (ap (has n) (finalized_t before l a b c));
    as_many = triangles_t out l a b c ∙ ap (λ k. k + 1) w.as_many ∙ sym (triangles_t before l a b c);
    known = λ n k. ap (has n) (introduced_t before l a b c) ∙ w.known n k;
    wanted = w.wanted;
    all_seen = λ n k. was n (has_cases n (named before) (a ∷ b ∷ c ∷ []) (sym (ap (has n) (named_t before l a b c)) ∙ k));
  }
    where
      was : (n : ℕ) → (has n (named before) ≡ true) ⊎ (has n (a ∷ b ∷ c ∷ []) ≡ true) → has n (a ∷ b ∷ c ∷ seen) ≡ true
      was n (inl x) = w.all_seen n x
      was n (inr x) = has_left n (a ∷ b ∷ c ∷ []) seen x

  module _ (out : List Event) (seen : List ℕ) (i : ℕ) (w : Moving all before out seen) where
    -- its vertex is named by some triangle,
    kept_final : Moving all (before ++ (Finalization l i ∷ [])) (out ++ (Finalization l i ∷ [])) seen
    kept_final = record {
      moved_in = λ n. ap (has n) (introduced_f out l i) ∙ w.moved_in n;
      differ = subst Distinct (sym (introduced_f out l i)) w.differ;
      finals = λ n m.
          ap (has n) (finalized_f out l i) ∙ has_end n i (finalized out) ∙ ap (λ b. eqb n i || b) (w.finals n m)
          ∙ sym (ap (has n) (finalized_f before l i) ∙ has_end n i (finalized before));
      as_many = triangles_f out l i ∙ w.as_many ∙ sym (triangles_f before l i);
      known = λ n m. ap (has n) (introduced_f before l i) ∙ w.known n m;
      wanted = w.wanted;
      all_seen = λ n m. w.all_seen n (sym (ap (has n) (named_f before l i)) ∙ m);
    }

    -- or by none
    left_final : has i (named all) ≡ false → Moving all (before ++ (Finalization l i ∷ [])) out seen
    left_final k = record {
      moved_in = w.moved_in;
      differ = w.differ;
      finals = λ n m.
          w.finals n m ∙ sym (ap (λ b. b || has n (finalized before)) (has_differ n i (named all) m k))
          ∙ sym (ap (has n) (finalized_f before l i) ∙ has_end n i (finalized before));
      as_many = w.as_many ∙ sym (triangles_f before l i);
      known = λ n m. ap (has n) (introduced_f before l i) ∙ w.known n m;
      wanted = w.wanted;
      all_seen = λ n m. w.all_seen n (sym (ap (has n) (named_f before l i)) ∙ m);
    }

-- What holds of what was handed over in the end.
abbrev pub Ends : List Event → List Event → Type 0
Ends all out = Within (live out) (live all) × (length (introduced out) ≤ length (introduced all))

module _ (limit : ℕ) (all : List Event) (ok : Accepted (refusal limit) all) where
  -- what is handed over for the rest, when `before` was taken
  abbrev Moves : List Event → List Event → Type 0
  Moves before rest = (out : List Event) (seen : List ℕ) → Moving all before out seen → Leads limit (Ends all) out (moved all seen rest)

  module _ (before rest : List Event) (l a b c : ℕ) (is_all : all ≡ before ++ (Triangle l a b c ∷ rest)) (t : TriangleOk before a b c) where
    lives : (n : ℕ) → has n (a ∷ b ∷ c ∷ []) ≡ true → is_live before n ≡ true
    lives = of_three (λ n. is_live before n ≡ true) a b c t.first t.second t.third

    corner : (n : ℕ) → has n (a ∷ b ∷ c ∷ []) ≡ true → has n (named all) ≡ true
    corner n k =
        ap (has n) (ap named is_all ∙ named-++ before (Triangle l a b c ∷ rest))
        ∙ has_right n (named before) (a ∷ b ∷ c ∷ named rest) (has_left n (a ∷ b ∷ c ∷ []) (named rest) k)

    once : (n : ℕ) → has n (introduced before) ≡ true → Introduced n all
    once n k =
        introduced_once limit n all ok
        (ap (has n) (ap introduced is_all ∙ introduced-++ before (Triangle l a b c ∷ rest)) ∙ has_left n (introduced before) (introduced rest) k)

    -- its vertices have moved in
    fits : (out : List Event) (seen : List ℕ) → Moving all before out (a ∷ b ∷ c ∷ seen) → TriangleOk out a b c
    fits out seen w = record {
      first = here a (has_self a (b ∷ c ∷ []));
      second = here b (has_right b (a ∷ []) (b ∷ c ∷ []) (has_self b (c ∷ [])));
      third = here c (has_right c (a ∷ b ∷ []) (c ∷ []) (has_self c []));
      few = omega (arith, t.few, w.as_many);
    }
      where
        here : (n : ℕ) → has n (a ∷ b ∷ c ∷ []) ≡ true → is_live out n ≡ true
        here n k =
            live_from out n (w.moved_in n ∙ has_left n (a ∷ b ∷ c ∷ []) seen k)
            (w.finals n (corner n k) ∙ live_not_final before n (lives n k))

    move_triangle : length (live before) ≤ limit → Moves (before ++ (Triangle l a b c ∷ [])) rest → Moves before (Triangle l a b c ∷ rest)
    move_triangle bound next out seen w =
        move_ins all before limit bound (Ends all) (Triangle l a b c ∷ moved all (a ∷ b ∷ c ∷ seen) rest) once (a ∷ b ∷ c ∷ []) seen out w
        (λ n k. (lives n k, corner n k))
        (λ o more x se.
        let y = same_seen all before o more (a ∷ b ∷ c ∷ seen) (λ n. se n ∙ or_three (eqb n a) (eqb n b) (eqb n c) (has n seen)) x in
        (fits o seen y, next (o ++ (Triangle l a b c ∷ [])) (a ∷ b ∷ c ∷ seen) (took_triangle all before l o seen a b c y)))

  module _ (before rest : List Event) (l i : ℕ) (is_all : all ≡ before ++ (Finalization l i ∷ rest)) (alive : is_live before i ≡ true)
      (later : has i (named rest) ≡ false) where
    was_seen : (out : List Event) (seen : List ℕ) → Moving all before out seen → has i (named all) ≡ true → has i seen ≡ true
    was_seen out seen w k =
        at (has_cases i (named before) (named rest) (sym (ap (has i) (ap named is_all ∙ named-++ before (Finalization l i ∷ rest))) ∙ k))
      where
        at : (has i (named before) ≡ true) ⊎ (has i (named rest) ≡ true) → has i seen ≡ true
        at (inl x) = w.all_seen i x
        at (inr x) = absurd (both_ways (has i (named rest)) later x)

    move_final : Moves (before ++ (Finalization l i ∷ [])) rest → Moves before (Finalization l i ∷ rest)
    move_final next out seen w = here (has i (named all)) refl
      where
        Goal : Bool → Type 0
        Goal b = Leads limit (Ends all) out (cond b (Finalization l i ∷ []) [] ++ moved all seen rest)

        here : (b : Bool) → has i (named all) ≡ b → Goal (has i (named all))
        here true k = subst Goal (sym k) (
          live_from out i (w.moved_in i ∙ was_seen out seen w k) (w.finals i k ∙ live_not_final before i alive),
          next (out ++ (Finalization l i ∷ [])) seen (kept_final all before l out seen i w),
        )
        here false k = subst Goal (sym k) (next out seen (left_final all before l out seen i w k))

  moves : (rest before : List Event) → all ≡ before ++ rest → Bounded limit before → AcceptedAfter (refusal limit) before rest
      → Moves before rest
  moves [] before e s h = λ out seen w.
      subst (λ (z : List Event). Ends z out) (sym (e ∙ append-nil before))
      (live_too all before out seen w, no_more (introduced out) (introduced before) w.differ (λ n k. w.known n (sym (w.moved_in n) ∙ k)))
  moves (Vertex l n v ∷ rest) before e s (a, h) = λ out seen w.
      moves rest (before ++ (Vertex l n v ∷ [])) (e ∙ sym (append_assoc before (Vertex l n v ∷ []) rest))
      (bounded_step limit before s (Vertex l n v) a) h out seen (took_vertex all before l out seen n v w)
  moves (Triangle l a b c ∷ rest) before e s (q, h) =
      move_triangle before rest l a b c e (triangle_ok limit before l a b c q) s.bound
      (moves rest (before ++ (Triangle l a b c ∷ [])) (e ∙ sym (append_assoc before (Triangle l a b c ∷ []) rest)) (bounded_step limit before s (Triangle l a b c) q) h)
  moves (Finalization l i ∷ rest) before e s (q, h) =
      move_final before rest l i e (final_ok limit before l i q)
      (not_named limit i rest (before ++ (Finalization l i ∷ [])) h (ap (has i) (finalized_f before l i) ∙ has_right i (finalized before) (i ∷ []) (has_self i [])))
      (moves rest (before ++ (Finalization l i ∷ [])) (e ∙ sym (append_assoc before (Finalization l i ∷ []) rest)) (bounded_step limit before s (Finalization l i) q) h)

  moved_leads : Leads limit (Ends all) [] (moved all [] all)
  moved_leads = moves all [] refl (bounded_none limit) ok [] [] (record {
    moved_in = λ n. refl;
    differ = tt;
    finals = λ n h. refl;
    as_many = refl;
    known = λ n h. absurd (not_has_nil n h);
    wanted = λ n h. absurd (not_has_nil n h);
    all_seen = λ n h. h;
  })

  pub moved_loosely : Loosely limit [] (moved all [] all)
  moved_loosely = (leads_loosely limit (Ends all) (moved all [] all) [] moved_leads).0

  moved_ends : Ends all (moved all [] all)
  moved_ends = (leads_loosely limit (Ends all) (moved all [] all) [] moved_leads).1

  pub few_moved : length (introduced (moved all [] all)) ≤ 100000000
  few_moved = let few = few_introduced limit all (bounded limit all ok) in omega (arith, moved_ends.1)

-- Compact keeps a list accepted, under the same limit, and leaves no vertex live that was not.
pub compacted_accepted : (limit : ℕ) (es : List Event) → Accepted (refusal limit) es → Accepted (refusal limit) (compacted es)
compacted_accepted limit es ok = loosely_renumbered limit (moved es [] es) (few_moved limit es ok) (moved_loosely limit es ok)

pub compacted_none_live : (limit : ℕ) (es : List Event) → Accepted (refusal limit) es → live es ≡ [] → live (compacted es) ≡ []
compacted_none_live limit es ok none =
    renumbered_none_live (moved es [] es) (none_within_nil (live (moved es [] es)) (λ n h. ap (has n) (sym none) ∙ (moved_ends limit es ok).0 n h))
