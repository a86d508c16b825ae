-- Looking up says of accepted lists what it should: a vertex's point is its own, and renumbered vertices are 1, 2, 3 and so on.
use Rattle.std.proofs.Common.{◌≡◌, ℕ, suc, Bool, true, false, cond, ◌||◌, eqb, List, [], ◌∷◌, ◌++◌, map, length, sym, refl, ap, ◌∙◌, subst, append_assoc, append-nil, add-one, length-append}
use Rattle.std.proofs.lemmas.Bool.{both_ways, eq-eqb, or_parts, or_from}
use Rattle.std.specs.List.{AllByRecursion as All}
use Rattle.mesh_stream.specs.declared.event.Point.{Point}
use Rattle.mesh_stream.specs.declared.event.Event.{Event}
use Rattle.mesh_stream.specs.declared.event.Event.TheVariants.{Vertex, Triangle, Finalization}
use Rattle.mesh_stream.specs.Lists.{has}
use Rattle.mesh_stream.specs.Events.{introduced, point}
use Rattle.mesh_judge.specs.Accepting.{refusal, Accepted}
use Rattle.mesh_rules.specs.Rewriting.{position, renumbered, moved}
use Rattle.mesh_rules.specs.RuleLaws.{Own, Counting, Faithful}
use Rattle.mesh_stream.proofs.Views.{introduced_v, introduced_t, introduced_f}
use Rattle.mesh_stream.proofs.Distinct.{Distinct, distinct_push, eqb_comm}
use Rattle.mesh_rules.proofs.Having.{has-++}
use Rattle.mesh_rules.proofs.Numbering.{Loose, Loosely, loosely, count_before_new, introduced_renamed}
use Rattle.mesh_rules.proofs.Compacting.{moved_loosely}

-- A vertex that is new has the point that it is introduced with, whatever follows.
pub point_new : (xs ys : List Event) (l n : ℕ) (v : Point) → has n (introduced xs) ≡ false → point (xs ++ (Vertex l n v ∷ ys)) n ≡ v
point_new [] ys l n v h = ap (λ b. cond b v (point ys n)) (eq-eqb n n refl)
point_new (Vertex k m w ∷ xs) ys l n v h = at (eqb n m) h (point_new xs ys l n v)
  where
    at : (b : Bool) → (b || has n (introduced xs)) ≡ false → (has n (introduced xs) ≡ false → point (xs ++ (Vertex l n v ∷ ys)) n ≡ v)
        → cond b w (point (xs ++ (Vertex l n v ∷ ys)) n) ≡ v
    at true k ih = absurd (both_ways true k refl)
    at false k ih = ih k
point_new (Triangle k a b c ∷ xs) ys l n v h = point_new xs ys l n v h
point_new (Finalization k i ∷ xs) ys l n v h = point_new xs ys l n v h

own_after : (limit : ℕ) (es before : List Event) → Loosely limit before es → All (Own (before ++ es)) es
own_after limit [] before h = tt
own_after limit (e ∷ es) before (a, h) =
    (here e a, subst (λ (z : List Event). All (Own z) es) (append_assoc before (e ∷ []) es) (own_after limit es (before ++ (e ∷ [])) h))
  where
    here : (x : Event) → Loose limit before x → Own (before ++ (x ∷ es)) x
    here (Vertex l n v) k = point_new before es l n v k.1
    here (Triangle l a b c) k = tt
    here (Finalization l i) k = tt

own_points : (limit : ℕ) (es : List Event) → Accepted (refusal limit) es → All (Own es) es
own_points limit es h = own_after limit es [] (loosely limit es h)

distinct_after : (limit : ℕ) (es before : List Event) → Distinct (introduced before) → Loosely limit before es
    → Distinct (introduced (before ++ es))
distinct_after limit [] before d h = subst (λ (z : List Event). Distinct (introduced z)) (sym (append-nil before)) d
distinct_after limit (e ∷ es) before d (a, h) =
    subst (λ (z : List Event). Distinct (introduced z)) (append_assoc before (e ∷ []) es) (distinct_after limit es (before ++ (e ∷ [])) (here e a) h)
  where
    here : (x : Event) → Loose limit before x → Distinct (introduced (before ++ (x ∷ [])))
    here (Vertex l n v) k = subst Distinct (sym (introduced_v before l n v)) (distinct_push (introduced before) n d k.1)
    here (Triangle l a b c) k = subst Distinct (sym (introduced_t before l a b c)) d
    here (Finalization l i) k = subst Distinct (sym (introduced_f before l i)) d

-- one of different numbers does not stand before itself
not_before : (xs ys : List ℕ) (n : ℕ) → Distinct (xs ++ (n ∷ ys)) → has n xs ≡ false
not_before [] ys n d = refl
not_before (x ∷ xs) ys n (a, d) =
    let k = or_parts (has x xs) (has x (n ∷ ys)) (sym (has-++ x xs (n ∷ ys)) ∙ a) in
    or_from (eqb n x) (has n xs) (eqb_comm x n (or_parts (eqb x n) (has x ys) k.1).0) (not_before xs ys n d)

-- The position of one of different numbers.
pub position_of : (xs ys : List ℕ) (n : ℕ) → Distinct (xs ++ (n ∷ ys)) → position (xs ++ (n ∷ ys)) n ≡ suc (length xs)
position_of xs ys n d = ap suc (count_before_new xs ys n (not_before xs ys n d))

counting : (all ys xs : List ℕ) → all ≡ xs ++ ys → Distinct all → Counting (suc (length xs)) (map (position all) ys)
counting all [] xs e d = tt
counting all (n ∷ ys) xs e d = (
  ap (λ (z : List ℕ). position z n) e ∙ position_of xs ys n (subst Distinct e d),
  subst (λ (k : ℕ). Counting (suc k) (map (position all) ys)) (length-append xs (n ∷ []) ∙ add-one (length xs))
      (counting all ys (xs ++ (n ∷ [])) (e ∙ sym (append_assoc xs (n ∷ []) ys)) d),
)

counted : (limit : ℕ) (es : List Event) → Loosely limit [] es → Counting 1 (introduced (renumbered es))
counted limit es h =
    subst (Counting 1) (sym (introduced_renamed (position (introduced es)) es))
    (counting (introduced es) (introduced es) [] refl (distinct_after limit es [] tt h))

pub faithful : (limit : ℕ) (es : List Event) → Accepted (refusal limit) es → Faithful es
faithful limit es h = record {
  points = own_points limit es h;
  renumbered_count = counted limit es (loosely limit es h);
  compacted_count = counted limit (moved es [] es) (moved_loosely limit es h);
}
