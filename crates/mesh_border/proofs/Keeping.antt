-- What the filter keeps, through each event.
use Rattle.std.proofs.Common.{◌≡◌, ◌≢◌, ℕ, ◌+◌, ◌-◌, ◌<◌, ◌≤◌, Bool, true, false, cond, ◌&&◌, ◌||◌, ◌==◌, List, [], ◌∷◌, Some, None, Option, take, IsPermutation, sym, refl, ap, ◌∙◌, ◌⊎◌, inl, inr, subst, arith}
use Rattle.std.proofs.lemmas.Bool.{cases_eq, cases_Bool, eq-eqb, ne_eqb, eqb-true, eqb-false, and_from, and_parts, or_left, or_right, or_cases, or_parts, cond-true, cond-false, both_ways}
use Rattle.std.proofs.lemmas.List.Sorted.{list_any-IsPermutation}
use Rattle.std.proofs.lemmas.Option.{none-some, same_Some}
use Rattle.mesh_stream.specs.Lists.{has}
use Rattle.mesh_judge.specs.declared.live.Live.{Live}
use Rattle.mesh_judge.specs.declared.judge.Judge.{Judge}
use Rattle.mesh_judge.specs.Windows.{Window, fresh, put, enters, counted, leaves}
use Rattle.mesh_judge.specs.Judging.{window_of, live_limit, Begun}
use Rattle.mesh_edges.specs.Bordering.{edge, all_different, uses_of}
use Rattle.mesh_edge_windows.specs.declared.open_edge.OpenEdge.{OpenEdge}
use Rattle.mesh_edge_windows.specs.Uses.{used_by}
use Rattle.mesh_edge_windows.specs.Edges.{Edges, no_edges, joins, use_edge, use_all, close_at}
use Rattle.mesh_border.specs.declared.neighbours.Neighbours.{Neighbours}
use Rattle.mesh_border.specs.Rows.{vertex_of, free_rows, next_row, near, Entered, LeftRow, Joined, Listed}
use Rattle.mesh_border.specs.OpenEdges.{Among}
use Rattle.mesh_border.specs.Keeping.{near_live, Kept}

-- A function changed at one number.
put_same : {A : Type 0} (f : ℕ → A) (m : ℕ) (o : A) (n : ℕ) → n ≡ m → put f m o n ≡ o
put_same f m o n e = cond-true (n == m) o (f n) (eq-eqb n m e)

put_other : {A : Type 0} (f : ℕ → A) (m : ℕ) (o : A) (n : ℕ) → (n ≡ m → ⊥) → put f m o n ≡ f n
put_other f m o n d = cond-false (n == m) o (f n) (ne_eqb n m d)

-- Two vertices are live, and near by the row of the first.
record NearBy (n : Neighbours) (o p : Option (Live ℕ)) : Type 0 where
  first : Live ℕ
  second : Live ℕ
  first_is : o ≡ Some first
  second_is : p ≡ Some second
  near_is : near n first.note second.note ≡ true

near_by : (n : Neighbours) (o p : Option (Live ℕ)) → near_live n o p ≡ true → NearBy n o p
near_by n None p h = absurd (both_ways false refl h)
near_by n (Some x) None h = absurd (both_ways false refl h)
near_by n (Some x) (Some y) h = record { first = x; second = y; first_is = refl; second_is = refl; near_is = h }

from_near : (n : Neighbours) (o p : Option (Live ℕ)) (x y : Live ℕ) → o ≡ Some x → p ≡ Some y → near n x.note y.note ≡ true
    → near_live n o p ≡ true
from_near n o p x y a b h = rw (a, b) h

-- The same with an equal window and equal open edges.
pub kept_by : (limit : ℕ) (w u : Window ℕ) (t s : Edges) (n : Neighbours) → Kept limit w t n → u ≡ w → s ≡ t → Kept limit u s n
kept_by limit w u t s n kept window edges = rw (window, edges) kept

-- Before the first event.
kept_blank : (n : Neighbours) → free_rows n ≡ 1024 → Kept 1024 fresh no_edges n
kept_blank n free = record {
  limit_is = refl;
  rows = λ i v h. absurd (none-some v h);
  free = omega arith;
  numbers = λ i v h. absurd (none-some v h);
  ends = λ a b o h. absurd (none-some o h);
}

pub kept_first : (j : Judge ℕ) (t : Edges) (n : Neighbours) → Begun 1024 j → t ≡ no_edges → free_rows n ≡ 1024
    → Kept (live_limit j) (window_of j) t n
kept_first j t n judge none free =
    subst (λ limit. Kept limit (window_of j) t n) (sym judge.limit)
    (kept_by 1024 fresh (window_of j) no_edges t n (kept_blank n free) judge.window none)

-- A vertex comes in.
module _ (limit : ℕ) (w : Window ℕ) (t : Edges) (n m : Neighbours) (kept : Kept limit w t n) (v : ℕ) (x : Live ℕ)
    (above : w.highest < v) (noted : x.note ≡ next_row n) (in_row : Entered n v m) where
  row_in : (i : ℕ) (y : Live ℕ) → put w.at v (Some x) i ≡ Some y → (i ≡ v) ⊎ (i ≡ v → ⊥) → (y.note < 1024) × (vertex_of m y.note ≡ Some i)
  row_in i y h (inl e) =
      let same : x ≡ y = same_Some x y (sym (put_same w.at v (Some x) i e) ∙ h) in
      let row : y.note ≡ next_row n = ap (λ (z : Live ℕ). z.note) (sym same) ∙ noted in
      let taken = in_row.vertices (next_row n) ∙ put_same (vertex_of n) (next_row n) (Some v) (next_row n) refl in
      rw row (in_row.inside, taken ∙ ap (λ (z : ℕ). Some z) (sym e))
  row_in i y h (inr d) =
      let old = kept.rows i y (sym (put_other w.at v (Some x) i d) ∙ h) in
      let other : y.note ≡ next_row n → ⊥ = λ e. none-some i (sym in_row.bare ∙ ap (vertex_of n) (sym e) ∙ old.1) in
      (old.0, in_row.vertices y.note ∙ put_other (vertex_of n) (next_row n) (Some v) y.note other ∙ old.1)

  number_in : (i : ℕ) (y : Live ℕ) → put w.at v (Some x) i ≡ Some y → (i ≡ v) ⊎ (i ≡ v → ⊥) → i ≤ v
  number_in i y h (inl e) = omega arith
  number_in i y h (inr d) = let below = kept.numbers i y (sym (put_other w.at v (Some x) i d) ∙ h) in omega arith

  older : (i : ℕ) (y : Live ℕ) → w.at i ≡ Some y → put w.at v (Some x) i ≡ Some y
  older i y h = let below = kept.numbers i y h in put_other w.at v (Some x) i (λ e. omega arith) ∙ h

  other_row : (i : ℕ) (y : Live ℕ) → w.at i ≡ Some y → y.note ≢ next_row n
  other_row i y h e = none-some i (sym in_row.bare ∙ ap (vertex_of n) (sym e) ∙ (kept.rows i y h).1)

  ends_in : (a b : ℕ) (o : OpenEdge) → t.between a b ≡ Some o → near_live m (put w.at v (Some x) a) (put w.at v (Some x) b) ≡ true
  ends_in a b o h =
      let s = near_by n (w.at a) (w.at b) (kept.ends a b o h) in
      from_near m _ _ s.first s.second (older a s.first s.first_is) (older b s.second s.second_is)
      (in_row.others s.first.note s.second.note (other_row a s.first s.first_is) ∙ s.near_is)

  pub kept_entered : (l : ℕ) → l ≡ limit → Kept l (enters w v x) t m
  kept_entered l same = record {
    limit_is = same ∙ kept.limit_is;
    rows = λ i y h. row_in i y h (cases_eq i v);
    free = (let f = kept.free in let g = in_row.free in omega arith);
    numbers = λ i y h. number_in i y h (cases_eq i v);
    ends = ends_in;
  }

-- The vertices of two rows are joined.
module _ (n m : Neighbours) (r c : ℕ) (joined : Joined n r c m) where
  near_stays : (i j : ℕ) → near n i j ≡ true → near m i j ≡ true
  near_stays i j h =
      joined.bits i j ∙ or_left (near n i j || (i == r && j == c)) (i == c && j == r) (or_left (near n i j) (i == r && j == c) h)

  near_there : near m r c ≡ true
  near_there =
      joined.bits r c ∙ or_left (near n r c || (r == r && c == c)) (r == c && c == r)
      (or_right (near n r c) (r == r && c == c) (and_from (r == r) (c == c) (eq-eqb r r refl) (eq-eqb c c refl)))

  near_back : near m c r ≡ true
  near_back =
      joined.bits c r ∙ or_right (near n c r || (c == r && r == c)) (c == c && r == r)
      (and_from (c == c) (r == r) (eq-eqb c c refl) (eq-eqb r r refl))

  kept_joined : (limit : ℕ) (w : Window ℕ) (t : Edges) → Kept limit w t n → Kept limit w t m
  kept_joined limit w t kept = record {
    limit_is = kept.limit_is;
    rows = λ i y h. (let old = kept.rows i y h in (old.0, joined.rows.vertices y.note ∙ old.1));
    free = (let f = joined.rows.free in let g = kept.free in omega arith);
    numbers = kept.numbers;
    ends = λ a b o h.
        (let s = near_by n (w.at a) (w.at b) (kept.ends a b o h) in
        from_near m _ _ s.first s.second s.first_is s.second_is (near_stays s.first.note s.second.note s.near_is));
  }

-- The edge between two live vertices is used, each of which is near by the row of the other.
module _ (limit : ℕ) (w : Window ℕ) (n : Neighbours) (p a b : ℕ) (x y : Live ℕ) (first : w.at a ≡ Some x) (second : w.at b ≡ Some y)
    (there : near n x.note y.note ≡ true) (back : near n y.note x.note ≡ true) where
  used_ends : (i j : ℕ) → joins i j (edge p a b) ≡ true → near_live n (w.at i) (w.at j) ≡ true
  used_ends i j h = elim (or_cases (i == a && j == b) (i == b && j == a) h) [
    | inl u ↦
        let s = and_parts (i == a) (j == b) u in
        rw (eqb-true i a s.0, eqb-true j b s.1) (from_near n (w.at a) (w.at b) x y first second there)
    | inr u ↦
        let s = and_parts (i == b) (j == a) u in
        rw (eqb-true i b s.0, eqb-true j a s.1) (from_near n (w.at b) (w.at a) y x second first back)
  ]

  kept_used : (t : Edges) → Kept limit w t n → Kept limit w (use_edge t (edge p a b)) n
  kept_used t kept = record {
    limit_is = kept.limit_is;
    rows = kept.rows;
    free = kept.free;
    numbers = kept.numbers;
    ends = λ i j o h. elim (cases_Bool (joins i j (edge p a b))) [
      | inl u ↦ used_ends i j u
      | inr u ↦
          kept.ends i j o (sym (cond-false (joins i j (edge p a b)) (Some (used_by (t.between i j) (edge p a b))) (t.between i j) u) ∙ h)
    ];
  }

-- A triangle is counted: its corners are joined, and its edges are used.
module _ (limit : ℕ) (w : Window ℕ) (t : Edges) (n₀ n₁ n₂ n₃ : Neighbours) (kept : Kept limit w t n₀) (p a b c : ℕ) (x y z : Live ℕ)
    (first : w.at a ≡ Some x) (second : w.at b ≡ Some y) (third : w.at c ≡ Some z) (ab : Joined n₀ x.note y.note n₁)
    (bc : Joined n₁ y.note z.note n₂) (ca : Joined n₂ z.note x.note n₃) where
  three_joined : Kept limit w t n₃
  three_joined =
      kept_joined n₂ n₃ z.note x.note ca limit w t
      (kept_joined n₁ n₂ y.note z.note bc limit w t (kept_joined n₀ n₁ x.note y.note ab limit w t kept))

  last : (i j : ℕ) → near n₂ i j ≡ true → near n₃ i j ≡ true
  last = near_stays n₂ n₃ z.note x.note ca

  then_last : (i j : ℕ) → near n₁ i j ≡ true → near n₃ i j ≡ true
  then_last i j h = last i j (near_stays n₁ n₂ y.note z.note bc i j h)

  all_used : (d : Bool) → Kept limit w (use_all t (cond d (edge p a b ∷ edge p b c ∷ edge p c a ∷ []) [])) n₃
  all_used false = three_joined
  all_used true =
      let one = kept_used limit w n₃ p a b x y first second (then_last x.note y.note (near_there n₀ n₁ x.note y.note ab))
      (then_last y.note x.note (near_back n₀ n₁ x.note y.note ab)) t three_joined in
      let two = kept_used limit w n₃ p b c y z second third (last y.note z.note (near_there n₁ n₂ y.note z.note bc))
      (last z.note y.note (near_back n₁ n₂ y.note z.note bc)) (use_edge t (edge p a b)) one in
      kept_used limit w n₃ p c a z x third first (near_there n₂ n₃ z.note x.note ca) (near_back n₂ n₃ z.note x.note ca)
      (use_edge (use_edge t (edge p a b)) (edge p b c)) two

  pub kept_counted : (l : ℕ) → l ≡ limit → Kept l (counted w) (use_all t (uses_of p a b c)) n₃
  kept_counted l same =
      let used = all_used (all_different a b c) in
      record { limit_is = same ∙ kept.limit_is; rows = used.rows; free = used.free; numbers = used.numbers; ends = used.ends }

-- A vertex goes.
module _ (limit : ℕ) (w : Window ℕ) (t : Edges) (n : Neighbours) (kept : Kept limit w t n) (i : ℕ) (x : Live ℕ)
    (live : w.at i ≡ Some x) where
  -- Those that its row lists are all that may be the other ends of open edges, in whatever order.
  listed_ends : (into : List ℕ) (count : ℕ) → Listed n x.note into count → Among t i (take count into)
  listed_ends into count listed j o h =
      let s = near_by n (w.at i) (w.at j) (kept.ends i j o h) in
      let mine : s.first ≡ x = same_Some s.first x (sym s.first_is ∙ live) in
      listed s.second.note j (ap (λ (z : Live ℕ). near n z.note s.second.note) (sym mine) ∙ s.near_is) (kept.rows j s.second s.second_is).1

  -- What is sorted is the slice of the list from 0 to `count`, and a slice is given by its length, `count - 0`.
  pub ends_among : (into : List ℕ) (count : ℕ) (ends : List ℕ) → Listed n x.note into count → IsPermutation (take (count - 0) into) ends
      → Among t i ends
  ends_among into count ends listed moved j o h =
      sym (list_any-IsPermutation (λ m. j == m) (take (count - 0) into) ends moved)
      ∙ ap (λ (k : ℕ). has j (take k into)) (omega arith)
      ∙ listed_ends into count listed j o h

  module _ (m : Neighbours) (left_row : LeftRow n x.note m) where
    stayed : (j : ℕ) (y : Live ℕ) → put w.at i None j ≡ Some y → (j ≡ i) ⊎ (j ≡ i → ⊥) → (j ≡ i → ⊥) × (w.at j ≡ Some y)
    stayed j y h (inl e) = absurd (none-some y (sym (put_same w.at i None j e) ∙ h))
    stayed j y h (inr d) = (d, sym (put_other w.at i None j d) ∙ h)

    row_stays : (j : ℕ) (y : Live ℕ) → put w.at i None j ≡ Some y → (y.note < 1024) × (vertex_of m y.note ≡ Some j)
    row_stays j y h =
        let s = stayed j y h (cases_eq j i) in
        let old = kept.rows j y s.1 in
        let other : y.note ≡ x.note → ⊥ =
        λ e. s.0 (same_Some j i (sym old.1 ∙ ap (vertex_of n) e ∙ (kept.rows i x live).1)) in
        (old.0, left_row.vertices y.note ∙ put_other (vertex_of n) x.note None y.note other ∙ old.1)

    ends_stay : (a b : ℕ) (o : OpenEdge) → cond (a == i || b == i) None (t.between a b) ≡ Some o
        → ((a == i || b == i) ≡ true) ⊎ ((a == i || b == i) ≡ false)
        → near_live m (put w.at i None a) (put w.at i None b) ≡ true
    ends_stay a b o h (inl u) = absurd (none-some o (sym (cond-true (a == i || b == i) None (t.between a b) u) ∙ h))
    ends_stay a b o h (inr u) =
        let s = near_by n (w.at a) (w.at b) (kept.ends a b o (sym (cond-false (a == i || b == i) None (t.between a b) u) ∙ h)) in
        let d = or_parts (a == i) (b == i) u in
        from_near m _ _ s.first s.second (put_other w.at i None a (eqb-false a i d.0) ∙ s.first_is)
        (put_other w.at i None b (eqb-false b i d.1) ∙ s.second_is) (left_row.same s.first.note s.second.note ∙ s.near_is)

    pub kept_left : (l : ℕ) → l ≡ limit → (leaves w i).live_count + 1 ≡ w.live_count → Kept l (leaves w i) (close_at t i) m
    kept_left l same fewer = record {
      limit_is = same ∙ kept.limit_is;
      rows = row_stays;
      free = (let f = left_row.free in let g = kept.free in omega arith);
      numbers = λ j y h. kept.numbers j y (stayed j y h (cases_eq j i)).1;
      ends = λ a b o h. ends_stay a b o h (cases_Bool (a == i || b == i));
    }
