-- A window that knows a list of accepted events judges as the list does, and knows the list with one event more.
use Rattle.std.proofs.Common.{◌≡◌, ℕ, zero, suc, ◌+◌, ◌-◌, ◌<◌, ◌≤◌, min, max, Bool, true, false, cond, not, ◌&&◌, ◌||◌, eqb, ltb, leb, ◌⊎◌, List, [], ◌∷◌, ◌++◌, length, is_some, Some, None, filter, Option, sym, refl, ap, ◌∙◌, subst, inl, inr, append_assoc, append-nil, arith, length-append}
use Rattle.std.specs.Option.{option_or}
use Rattle.std.proofs.lemmas.Option.{none-some}
use Rattle.std.proofs.lemmas.Bool.{both_ways, ltb-true, lt-ltb, ltb-false, le-ltb, leb-true, leb-false, and_parts, eqb-true, eq-eqb, or_cases, or_right, or_parts, false_from_ne_true}
use Rattle.std.proofs.lemmas.List.Folds.{list_any-append}
use Rattle.mesh_stream.specs.declared.event.Point.{Point}
use Rattle.mesh_stream.specs.declared.event.Event.{Event}
use Rattle.mesh_stream.specs.declared.event.Event.TheVariants.{Vertex, Triangle, Finalization}
use Rattle.mesh_stream.specs.declared.fault.Cause.{Cause}
use Rattle.mesh_stream.specs.declared.fault.Cause.TheVariants.{OutOfRange, NotRising, TooManyLive, CornerNotLive, NotLive, LeftLive, TooManyTriangles}
use Rattle.mesh_stream.specs.declared.fault.LayerName.{LayerName}
use Rattle.mesh_stream.specs.declared.stage.Standing.{Standing}
use Rattle.mesh_stream.specs.declared.stage.Standing.TheVariants.{Waiting, Ended, Faulty}
use Rattle.mesh_stream.specs.Lists.{has, above_all}
use Rattle.mesh_stream.specs.Events.{introduced, finalized, point, birthplace}
use Rattle.mesh_stream.specs.Live.{live, is_live}
use Rattle.mesh_stream.specs.Ranges.{in_space, vertex_number}
use Rattle.mesh_stream.proofs.Having.{kept_yes, kept_no, has_self, has_filter, not_has_nil, above_not_has}
use Rattle.mesh_stream.proofs.Views.{introduced_v, introduced_t, introduced_f, triangles_v, triangles_t, triangles_f}
use Rattle.mesh_stream.proofs.Distinct.{Distinct, distinct_kept, eqb_comm}
use Rattle.mesh_judge.specs.declared.live.Live.{Live}
use Rattle.mesh_judge.specs.Accepting.{Rules, unless, refusal, AcceptedAfter, fault, lowest, end_with, stands_over}
use Rattle.mesh_judge.specs.Windows.{Window, fresh, refuses, enters, counted, leaves, renoted, first, end_by, ending, Origin, origin, origin_by, origin_in, largest, Knows}
use Rattle.mesh_judge.proofs.Refusing.{VertexOk, vertex_ok, final_ok}
use Rattle.mesh_judge.proofs.Living.{live_introduced, live_vertex, live_triangle, live_final}
use Rattle.mesh_judge.proofs.Sounding.{sound, new_not_final}

-- Judging

unless_cong : (b c : Bool) (x : Cause) (o q : Option Cause) → b ≡ c → o ≡ q → unless b x o ≡ unless c x q
unless_cong b c x o q p r = ap (λ z. unless z x o) p ∙ ap (unless c x) r

there_origin : {T : Type 0} (o : Option (Live T)) → is_some (origin o) ≡ is_some o
there_origin None = refl
there_origin (Some v) = refl

there_cond : {A : Type 0} (b : Bool) (x : A) → is_some (cond b (Some x) None) ≡ b
there_cond true x = refl
there_cond false x = refl

both_below : (m k n : ℕ) → (ltb m n && ltb k n) ≡ ltb (max m k) n
both_below m k n = at (ltb m n) (ltb k n) refl refl
  where
    at : (a b : Bool) → ltb m n ≡ a → ltb k n ≡ b → (a && b) ≡ ltb (max m k) n
    at true true x y = let p = ltb-true m n x in let q = ltb-true k n y in sym (lt-ltb (max m k) n (omega arith))
    at true false x y = let q = ltb-false k n y in sym (le-ltb (max m k) n (omega arith))
    at false b x y = let q = ltb-false m n x in sym (le-ltb (max m k) n (omega arith))

above_largest : (n : ℕ) (ns : List ℕ) → 1 ≤ n → above_all n ns ≡ ltb (largest ns) n
above_largest n [] h = sym (lt-ltb 0 n (omega arith))
above_largest n (m ∷ ms) h = ap (λ b. ltb m n && b) (above_largest n ms h) ∙ both_below m (largest ms) n

largest_push : (ns : List ℕ) (n : ℕ) → largest (ns ++ (n ∷ [])) ≡ max (largest ns) n
largest_push [] n = omega arith
largest_push (m ∷ ms) n = let e = largest_push ms n in omega arith

largest_above : (ns : List ℕ) (m : ℕ) → has m ns ≡ true → m ≤ largest ns
largest_above [] m h = absurd (not_has_nil m h)
largest_above (n ∷ ns) m h = at (or_cases (eqb m n) (has m ns) h) (largest_above ns m)
  where
    at : (eqb m n ≡ true) ⊎ (has m ns ≡ true) → (has m ns ≡ true → m ≤ largest ns) → m ≤ max n (largest ns)
    at (inl e) ih = omega (arith, eqb-true m n e)
    at (inr e) ih = let k = ih e in omega arith

at_least_one : (n : ℕ) (v : Point) → (in_space v && vertex_number n) ≡ true → 1 ≤ n
at_least_one n v h = leb-true 1 n (and_parts (leb 1 n) (leb n 100000000) (and_parts (in_space v) (vertex_number n) h).1).0

-- The first of a function's values.
pub first_none : {A : Type 0} (f : ℕ → Option A) (k : ℕ) → ((n : ℕ) → n ≤ k → f n ≡ None) → first f k ≡ None
first_none f zero h = h 0 (omega arith)
first_none {A} f (suc k) h = ap (λ (z : Option A). option_or z (f (suc k))) (first_none f k (λ n l. h n (omega arith))) ∙ h (suc k) (omega arith)

pub first_some : {A : Type 0} (f : ℕ → Option A) (k n : ℕ) (x : A) → n ≤ k → f n ≡ Some x → ((m : ℕ) → m < n → f m ≡ None) → first f k ≡ Some x
first_some f zero n x le e h = subst (λ (z : ℕ). f z ≡ Some x) (zero_only n le) e
  where
    zero_only : (n : ℕ) → n ≤ 0 → n ≡ 0
    zero_only n le = omega arith
first_some {A} f (suc k) n x le e h = at (leb n k) refl (λ l. first_some f k n x l e h)
  where
    below : (j : ℕ) → j < n → first f j ≡ None
    below zero l = h 0 l
    below (suc j) l = ap (λ (z : Option A). option_or z (f (suc j))) (below j (omega arith)) ∙ h (suc j) l

    at : (b : Bool) → leb n k ≡ b → (n ≤ k → first f k ≡ Some x) → first f (suc k) ≡ Some x
    at true q ih = ap (λ (z : Option A). option_or z (f (suc k))) (ih (leb-true n k q))
    at false q ih =
        let l : k < n = leb-false n k q in
        ap (λ (z : Option A). option_or z (f (suc k))) (below k l) ∙ subst (λ (z : ℕ). f z ≡ Some x) (last l) e
      where
        last : k < n → n ≡ suc k
        last l = omega arith

lowest_in : (n : ℕ) (ns : List ℕ) → has (lowest n ns) (n ∷ ns) ≡ true
lowest_in n [] = has_self n []
lowest_in n (m ∷ ms) = at (leb n m) refl (lowest_in n ms) (lowest_in m ms)
  where
    or_past : (a b c : Bool) → (a || c) ≡ true → (a || (b || c)) ≡ true
    or_past true b c h = refl
    or_past false true c h = refl
    or_past false false c h = h

    left : n ≤ m → min n m ≡ n
    left l = omega arith

    right : m < n → min n m ≡ m
    right l = omega arith

    at : (b : Bool) → leb n m ≡ b → has (lowest n ms) (n ∷ ms) ≡ true → has (lowest m ms) (m ∷ ms) ≡ true → has (lowest (min n m) ms) (n ∷ m ∷ ms) ≡ true
    at true q x y = subst (λ (z : ℕ). has (lowest z ms) (n ∷ m ∷ ms) ≡ true) (sym (left (leb-true n m q))) (or_past _ (eqb (lowest n ms) m) _ x)
    at false q x y = subst (λ (z : ℕ). has (lowest z ms) (n ∷ m ∷ ms) ≡ true) (sym (right (leb-false n m q))) (or_right (eqb (lowest m ms) n) _ y)

lowest_least : (n : ℕ) (ns : List ℕ) → (lowest n ns ≤ n) × ((m : ℕ) → has m ns ≡ true → lowest n ns ≤ m)
lowest_least n [] = (omega arith, λ m h. absurd (not_has_nil m h))
lowest_least n (k ∷ ks) = let ih = lowest_least (min n k) ks in (under ih.0, λ m h. at m ih.0 (ih.1 m) (or_cases (eqb m k) (has m ks) h))
  where
    under : {q : ℕ} → q ≤ min n k → q ≤ n
    under l = omega arith

    at : (m : ℕ) → lowest (min n k) ks ≤ min n k → (has m ks ≡ true → lowest (min n k) ks ≤ m) → (eqb m k ≡ true) ⊎ (has m ks ≡ true) → lowest (min n k) ks ≤ m
    at m l ih (inl e) = let q = eqb-true m k e in omega arith
    at m l ih (inr e) = ih e

-- the origin of what is there, taken apart
origin_some : {T : Type 0} (o : Option (Live T)) (g : Origin) → origin o ≡ Some g → (v : Live T) × (o ≡ Some v) × (v.place ≡ g.place) × (v.at ≡ g.point)
origin_some None g e = absurd (none-some g e)
origin_some {T} (Some v) g e = (v, refl, ap (λ (x : Origin). x.place) (inside e), ap (λ (x : Origin). x.point) (inside e))
  where
    inside : {x y : Origin} → Some x ≡ Some y → x ≡ y
    inside q = cc

origin_none : {T : Type 0} (o : Option (Live T)) → origin o ≡ None → o ≡ None
origin_none None e = refl
origin_none (Some v) e = absurd (none-some _ (sym e))

module _ {T : Type 0} (limit : ℕ) (w : Window T) (es : List Event) (k : Knows limit w es) where
  there_is : (n : ℕ) → is_some (w.at n) ≡ is_live es n
  there_is n = sym (there_origin (w.at n)) ∙ ap is_some (k.at n) ∙ there_cond (is_live es n) _

  -- What the window has at a live number, and that it has nothing at any other.
  pub at_live : (n : ℕ) → is_live es n ≡ true → (v : Live T) × (w.at n ≡ Some v) × (v.place ≡ birthplace es n) × (v.at ≡ point es n)
  at_live n h = origin_some (w.at n) _ (k.at n ∙ ap (λ b. cond b (Some (origin_by es n)) None) h)

  at_dead : (n : ℕ) → is_live es n ≡ false → w.at n ≡ None
  at_dead n h = origin_none (w.at n) (k.at n ∙ ap (λ b. cond b (Some (origin_by es n)) None) h)

  pub refuses_is : (e : Event) → refuses limit w e ≡ refusal limit es e
  refuses_is (Vertex p n v) = at (in_space v && vertex_number n) refl
    where
      at : (b : Bool) → (in_space v && vertex_number n) ≡ b
          → unless b OutOfRange (unless (ltb w.highest n) NotRising (unless (ltb w.live_count limit) TooManyLive None))
          ≡ unless b OutOfRange (unless (above_all n (introduced es)) NotRising (unless (ltb (length (live es)) limit) TooManyLive None))
      at true h =
          unless_cong _ _ NotRising _ _
          (ap (λ (z : ℕ). ltb z n) k.highest ∙ sym (above_largest n (introduced es) (at_least_one n v h)))
          (ap (λ (z : ℕ). unless (ltb z limit) TooManyLive None) k.live_count)
      at false h = refl
  refuses_is (Triangle p a b c) =
      unless_cong _ _ CornerNotLive _ _
      (ap (λ z. z && is_some (w.at b) && is_some (w.at c)) (there_is a) ∙ ap (λ z. is_live es a && z && is_some (w.at c)) (there_is b) ∙ ap (λ z. is_live es a && is_live es b && z) (there_is c))
      (ap (λ (z : ℕ). unless (ltb z 100000000) TooManyTriangles None) k.triangles)
  refuses_is (Finalization p i) = ap (λ z. unless z NotLive None) (there_is i)

  end_is : (layer : LayerName) (ns : List ℕ) → live es ≡ ns → end_by layer (first w.at w.highest) ≡ end_with layer es ns
  end_is layer [] e = ap (end_by layer) (first_none w.at w.highest (λ n l. at_dead n (ap (has n) e)))
  end_is layer (n ∷ ns) e =
      let v = at_live (lowest n ns) alive in
      ap (end_by layer) (first_some w.at w.highest (lowest n ns) v.0 bound v.1 none) ∙ ap (fault layer LeftLive) v.2
    where
      alive : is_live es (lowest n ns) ≡ true
      alive = ap (has (lowest n ns)) e ∙ lowest_in n ns

      bound : lowest n ns ≤ w.highest
      bound = subst (λ (z : ℕ). lowest n ns ≤ z) (sym k.highest) (largest_above (introduced es) (lowest n ns) (live_introduced es (lowest n ns) alive))

      none : (q : ℕ) → q < lowest n ns → w.at q ≡ None
      none q l = at_dead q (false_from_ne_true (is_live es q) (λ h. low (or_cases (eqb q n) (has q ns) (sym (ap (has q) e) ∙ h))))
        where
          low : (eqb q n ≡ true) ⊎ (has q ns ≡ true) → ⊥
          low (inl x) = let y = eqb-true q n x in let z = (lowest_least n ns).0 in omega arith
          low (inr x) = let z = (lowest_least n ns).1 q x in omega arith

  pub ending_is : (layer : LayerName) (s : Standing) → ending layer w s ≡ stands_over layer es s
  ending_is layer Waiting = refl
  ending_is layer Ended = end_is layer (live es) refl
  ending_is layer (Faulty f) = refl

-- One event more

pub accepted_push : (rules : Rules) (xs before : List Event) (e : Event) → AcceptedAfter rules before xs → rules (before ++ xs) e ≡ None → AcceptedAfter rules before (xs ++ (e ∷ []))
accepted_push rules [] before e h k = (subst (λ (z : List Event). rules z e ≡ None) (append-nil before) k, tt)
accepted_push rules (x ∷ xs) before e (a, h) k = (a, accepted_push rules xs (before ++ (x ∷ [])) e h (subst (λ (z : List Event). rules z e ≡ None) (sym (append_assoc before (x ∷ []) xs)) k))

-- looked up where it is found first
module _ {A : Type 0} (look : List Event → ℕ → A) (value : ℕ → Point → A)
    (at_vertex : (p m : ℕ) (v : Point) (es : List Event) (n : ℕ) → look (Vertex p m v ∷ es) n ≡ cond (eqb n m) (value p v) (look es n))
    (at_triangle : (p a b c : ℕ) (es : List Event) (n : ℕ) → look (Triangle p a b c ∷ es) n ≡ look es n)
    (at_final : (p i : ℕ) (es : List Event) (n : ℕ) → look (Finalization p i ∷ es) n ≡ look es n) where
  stays : (xs ys : List Event) (n : ℕ) → has n (introduced xs) ≡ true → look (xs ++ ys) n ≡ look xs n
  stays [] ys n h = absurd (not_has_nil n h)
  stays (Vertex l m v ∷ xs) ys n h = at_vertex l m v (xs ++ ys) n ∙ at (eqb n m) h (stays xs ys n) ∙ sym (at_vertex l m v xs n)
    where
      at : (b : Bool) → (b || has n (introduced xs)) ≡ true → (has n (introduced xs) ≡ true → look (xs ++ ys) n ≡ look xs n) → cond b (value l v) (look (xs ++ ys) n) ≡ cond b (value l v) (look xs n)
      at true k ih = refl
      at false k ih = ih k
  stays (Triangle l a b c ∷ xs) ys n h = at_triangle l a b c (xs ++ ys) n ∙ stays xs ys n h ∙ sym (at_triangle l a b c xs n)
  stays (Finalization l i ∷ xs) ys n h = at_final l i (xs ++ ys) n ∙ stays xs ys n h ∙ sym (at_final l i xs n)

  new : (xs : List Event) (l n : ℕ) (v : Point) → has n (introduced xs) ≡ false → look (xs ++ (Vertex l n v ∷ [])) n ≡ value l v
  new [] l n v h = at_vertex l n v [] n ∙ ap (λ b. cond b (value l v) (look [] n)) (eq-eqb n n refl)
  new (Vertex k m u ∷ xs) l n v h = at_vertex k m u (xs ++ (Vertex l n v ∷ [])) n ∙ at (eqb n m) h (new xs l n v)
    where
      at : (b : Bool) → (b || has n (introduced xs)) ≡ false → (has n (introduced xs) ≡ false → look (xs ++ (Vertex l n v ∷ [])) n ≡ value l v) → cond b (value k u) (look (xs ++ (Vertex l n v ∷ [])) n) ≡ value l v
      at true q ih = absurd (both_ways true q refl)
      at false q ih = ih q
  new (Triangle k a b c ∷ xs) l n v h = at_triangle k a b c (xs ++ (Vertex l n v ∷ [])) n ∙ new xs l n v h
  new (Finalization k i ∷ xs) l n v h = at_final k i (xs ++ (Vertex l n v ∷ [])) n ∙ new xs l n v h

pub point_stays : (xs ys : List Event) (n : ℕ) → has n (introduced xs) ≡ true → point (xs ++ ys) n ≡ point xs n
point_stays = stays point (λ l v. v) (λ p m v es n. refl) (λ p a b c es n. refl) (λ p i es n. refl)

birthplace_stays : (xs ys : List Event) (n : ℕ) → has n (introduced xs) ≡ true → birthplace (xs ++ ys) n ≡ birthplace xs n
birthplace_stays = stays birthplace (λ l v. l) (λ p m v es n. refl) (λ p a b c es n. refl) (λ p i es n. refl)

point_new : (xs : List Event) (l n : ℕ) (v : Point) → has n (introduced xs) ≡ false → point (xs ++ (Vertex l n v ∷ [])) n ≡ v
point_new = new point (λ l v. v) (λ p m v es n. refl) (λ p a b c es n. refl) (λ p i es n. refl)

birthplace_new : (xs : List Event) (l n : ℕ) (v : Point) → has n (introduced xs) ≡ false → birthplace (xs ++ (Vertex l n v ∷ [])) n ≡ l
birthplace_new = new birthplace (λ l v. l) (λ p m v es n. refl) (λ p a b c es n. refl) (λ p i es n. refl)

-- what is known of a number stays, where the event leaves it live or not
origin_same : (es : List Event) (e : Event) (n : ℕ) → is_live (es ++ (e ∷ [])) n ≡ is_live es n → origin_in (es ++ (e ∷ [])) n ≡ origin_in es n
origin_same es e n l = ap (λ b. cond b (Some (origin_by (es ++ (e ∷ [])) n)) None) l ∙ at (is_live es n) refl
  where
    at : (b : Bool) → is_live es n ≡ b → cond b (Some (origin_by (es ++ (e ∷ [])) n)) None ≡ cond b (Some (origin_by es n)) None
    at true q =
        let i = live_introduced es n q in
        (λ j. Some (record { place = birthplace_stays es (e ∷ []) n i j; point = point_stays es (e ∷ []) n i j }))
    at false q = refl

kept_all : (n : ℕ) (ys : List ℕ) → has n ys ≡ false → filter (λ m. not (eqb m n)) ys ≡ ys
kept_all n [] h = refl
kept_all n (y ∷ ys) h =
    let k = or_parts (eqb n y) (has n ys) h in
    kept_yes (λ m. not (eqb m n)) y ys (ap not (eqb_comm n y k.0)) ∙ ap (λ (z : List ℕ). y ∷ z) (kept_all n ys k.1)

-- of different numbers, all but one
one_less : (n : ℕ) (ys : List ℕ) → Distinct ys → has n ys ≡ true → length (filter (λ m. not (eqb m n)) ys) + 1 ≡ length ys
one_less n [] d h = absurd (not_has_nil n h)
one_less n (y ∷ ys) (a, d) h = at (eqb y n) refl (one_less n ys d)
  where
    at : (b : Bool) → eqb y n ≡ b → (has n ys ≡ true → length (filter (λ m. not (eqb m n)) ys) + 1 ≡ length ys) → length (filter (λ m. not (eqb m n)) (y ∷ ys)) + 1 ≡ suc (length ys)
    at true e ih =
        let q : has n ys ≡ false = subst (λ z. has z ys ≡ false) (eqb-true y n e) a in
        let l : length (filter (λ m. not (eqb m n)) (y ∷ ys)) ≡ length ys = ap length (kept_no (λ m. not (eqb m n)) y ys (ap not e) ∙ kept_all n ys q) in omega arith
    at false e ih =
        let r : has n ys ≡ true = sym (ap (λ b. b || has n ys) (eqb_comm y n e)) ∙ h in
        let l = ih r in
        let k : length (filter (λ m. not (eqb m n)) (y ∷ ys)) ≡ suc (length (filter (λ m. not (eqb m n)) ys)) = ap length (kept_yes (λ m. not (eqb m n)) y ys (ap not e)) in omega arith

module _ {T : Type 0} (limit : ℕ) (w : Window T) (es : List Event) (k : Knows limit w es) where
  pub knows_vertex : (n : ℕ) (x : Live T) → refusal limit es (Vertex x.place n x.at) ≡ None → Knows limit (enters w n x) (es ++ (Vertex x.place n x.at ∷ []))
  knows_vertex n x h = record {
    accepted = accepted_push (refusal limit) es [] (Vertex x.place n x.at) k.accepted h;
    at = λ m. at m (eqb m n) refl;
    live_count = ap (λ (z : ℕ). z + 1) k.live_count ∙ sym (length-append (live es) (n ∷ [])) ∙ sym (ap length (live_vertex es x.place n x.at unborn));
    highest = sym (ap largest (introduced_v es x.place n x.at) ∙ largest_push (introduced es) n ∙ top);
    triangles = k.triangles ∙ sym (triangles_v es x.place n x.at);
  }
    where
      ok : VertexOk limit es n x.at
      ok = vertex_ok limit es x.place n x.at h

      unborn : has n (finalized es) ≡ false
      unborn = new_not_final es (sound limit es k.accepted) n ok.above

      fresh_number : has n (introduced es) ≡ false
      fresh_number = above_not_has n (introduced es) ok.above

      top : max (largest (introduced es)) n ≡ n
      top = let l : largest (introduced es) < n = ltb-true _ _ (sym (above_largest n (introduced es) (at_least_one n x.at ok.in_range)) ∙ ok.above) in omega arith

      new_live : is_live (es ++ (Vertex x.place n x.at ∷ [])) n ≡ true
      new_live = ap (has n) (live_vertex es x.place n x.at unborn) ∙ list_any-append (eqb n) (live es) (n ∷ []) ∙ or_right (has n (live es)) _ (has_self n [])

      mine : Some (record { place = x.place; point = x.at }) ≡ origin_in (es ++ (Vertex x.place n x.at ∷ [])) n
      mine =
          (λ j. Some (record { place = sym (birthplace_new es x.place n x.at fresh_number) j; point = sym (point_new es x.place n x.at fresh_number) j }))
          ∙ ap (λ b. cond b (Some (origin_by (es ++ (Vertex x.place n x.at ∷ [])) n)) None) (sym new_live)

      other_live : (m : ℕ) → eqb m n ≡ false → is_live (es ++ (Vertex x.place n x.at ∷ [])) m ≡ is_live es m
      other_live m q = ap (has m) (live_vertex es x.place n x.at unborn) ∙ list_any-append (eqb m) (live es) (n ∷ []) ∙ ap (λ b. has m (live es) || (b || false)) q ∙ none (has m (live es))
        where
          none : (b : Bool) → (b || false) ≡ b
          none true = refl
          none false = refl

      at : (m : ℕ) (b : Bool) → eqb m n ≡ b → origin (cond b (Some x) (w.at m)) ≡ origin_in (es ++ (Vertex x.place n x.at ∷ [])) m
      at m true q = mine ∙ ap (origin_in (es ++ (Vertex x.place n x.at ∷ []))) (sym (eqb-true m n q))
      at m false q = k.at m ∙ sym (origin_same es (Vertex x.place n x.at) m (other_live m q))

  pub knows_triangle : (p a b c : ℕ) → refusal limit es (Triangle p a b c) ≡ None → Knows limit (counted w) (es ++ (Triangle p a b c ∷ []))
  knows_triangle p a b c h = record {
    accepted = accepted_push (refusal limit) es [] (Triangle p a b c) k.accepted h;
    at = λ n. k.at n ∙ sym (origin_same es (Triangle p a b c) n (ap (has n) (live_triangle es p a b c)));
    live_count = k.live_count ∙ sym (ap length (live_triangle es p a b c));
    highest = k.highest ∙ sym (ap largest (introduced_t es p a b c));
    triangles = ap (λ (z : ℕ). z + 1) k.triangles ∙ sym (triangles_t es p a b c);
  }

  pub knows_final : (p i : ℕ) → refusal limit es (Finalization p i) ≡ None → Knows limit (leaves w i) (es ++ (Finalization p i ∷ []))
  knows_final p i h = record {
    accepted = accepted_push (refusal limit) es [] (Finalization p i) k.accepted h;
    at = λ m. at m (eqb m i) refl;
    live_count = fewer;
    highest = k.highest ∙ sym (ap largest (introduced_f es p i));
    triangles = k.triangles ∙ sym (triangles_f es p i);
  }
    where
      fewer : w.live_count - 1 ≡ length (live (es ++ (Finalization p i ∷ [])))
      fewer =
          let l = one_less i (live es) (distinct_kept (λ m. not (has m (finalized es))) (introduced es) (sound limit es k.accepted).differ) (final_ok limit es p i h) in
          let q : length (live (es ++ (Finalization p i ∷ []))) ≡ length (filter (λ m. not (eqb m i)) (live es)) = ap length (live_final es p i) in
          omega (arith, k.live_count)

      left_live : (m : ℕ) → is_live (es ++ (Finalization p i ∷ [])) m ≡ (not (eqb m i) && is_live es m)
      left_live m = ap (has m) (live_final es p i) ∙ has_filter (λ n. not (eqb n i)) m (live es)

      gone : (m : ℕ) → eqb m i ≡ true → is_live (es ++ (Finalization p i ∷ [])) m ≡ false
      gone m q = left_live m ∙ ap (λ b. not b && is_live es m) q

      other_live : (m : ℕ) → eqb m i ≡ false → is_live (es ++ (Finalization p i ∷ [])) m ≡ is_live es m
      other_live m q = left_live m ∙ ap (λ b. not b && is_live es m) q

      at : (m : ℕ) (b : Bool) → eqb m i ≡ b → origin (cond b None (w.at m)) ≡ origin_in (es ++ (Finalization p i ∷ [])) m
      at m true q = sym (ap (λ b. cond b (Some (origin_by (es ++ (Finalization p i ∷ [])) m)) None) (gone m q))
      at m false q = k.at m ∙ sym (origin_same es (Finalization p i) m (other_live m q))

-- something else noted of a vertex
pub knows_renoted : {T : Type 0} (limit : ℕ) (w : Window T) (es : List Event) → Knows limit w es
    → (n : ℕ) (v : Live T) (x : T) → w.at n ≡ Some v → Knows limit (renoted w n v x) es
knows_renoted {T} limit w es k n v x e = record {
  accepted = k.accepted;
  at = λ m. at m (eqb m n) refl;
  live_count = k.live_count;
  highest = k.highest;
  triangles = k.triangles;
}
  where
    renewed : Live T
    renewed = record { place = v.place; at = v.at; note = x }

    at : (m : ℕ) (b : Bool) → eqb m n ≡ b → origin (cond b (Some renewed) (w.at m)) ≡ origin_in es m
    at m true q = ap origin (sym e) ∙ ap (λ (z : ℕ). origin (w.at z)) (sym (eqb-true m n q)) ∙ k.at m
    at m false q = k.at m

pub knows_none : {T : Type 0} (limit : ℕ) → Knows {T = T} limit fresh []
knows_none limit = record { accepted = tt; at = λ n. refl; live_count = refl; highest = refl; triangles = refl }
