-- From what the table's calls promise to what the judge's calls do.
use Rattle.std.proofs.Common.{◌≡◌, ℕ, ◌+◌, ◌-◌, ◌<◌, ◌≤◌, Bool, true, false, cond, ◌&&◌, eqb, ltb, leb, ◌⊎◌, List, [], ◌∷◌, ◌++◌, is_some, Some, None, Ok, Err, Option, Result, sym, refl, ap, ◌∙◌, subst, inl, inr, arith, rules}
use Rattle.std.specs.Option.{ok_or}
use Rattle.std.specs.Result.{IsOk, result_err}
use Rattle.std.proofs.lemmas.Option.{none-some, same_Some}
use Rattle.std.proofs.lemmas.Bool.{eqb-true, eqb-false, and_parts, and_from, both_ways, leb-true, le-leb, ltb-true, lt-ltb, le-ltb}
use Rattle.mesh_stream.specs.declared.event.Point.{Point}
use Rattle.mesh_stream.specs.declared.event.Event.{Event}
use Rattle.mesh_stream.specs.declared.event.Event.TheVariants.{Vertex, Triangle, Finalization}
use Rattle.mesh_stream.specs.declared.fault.Cause.{Cause}
use Rattle.mesh_stream.specs.declared.fault.Cause.TheVariants.{NotLive, CornerNotLive, TooManyTriangles}
use Rattle.mesh_stream.specs.declared.fault.Fault.{Fault}
use Rattle.mesh_stream.specs.declared.fault.LayerName.{LayerName}
use Rattle.mesh_stream.specs.declared.stage.Standing.{Standing}
use Rattle.mesh_stream.specs.declared.stage.Standing.TheVariants.{Waiting, Ended, Faulty}
use Rattle.mesh_stream.specs.Ranges.{in_space, vertex_number}
use Rattle.mesh_table.specs.declared.key.Key.{Key}
use Rattle.mesh_table.specs.declared.table.Table.{Table}
use Rattle.mesh_table.specs.declared.table.InsertError.{InsertError}
use Rattle.mesh_table.specs.declared.table.InsertError.TheVariants.{KeyPresent, AtLimit}
use Rattle.mesh_table.specs.Keys.{vertex_key}
use Rattle.mesh_table.proofs.Keys.{key_cases}
use Rattle.mesh_table.specs.Tables.{record_at, records, Empty, Sets, Inserted, Changed, Lowest}
use Rattle.mesh_judge.specs.declared.live.Live.{Live}
use Rattle.mesh_judge.specs.declared.live.Corners.{Corners}
use Rattle.mesh_judge.specs.declared.judge.Judge.{Judge}
use Rattle.mesh_judge.specs.Accepting.{unless, refusal}
use Rattle.mesh_judge.specs.Windows.{Window, fresh, put, refuses, enters, counted, leaves, renoted, renotes, first, end_by, ending, Knows}
use Rattle.mesh_judge.specs.Records.{sound_record, Stray}
use Rattle.mesh_judge.specs.Judging.{window_of, live_limit, KnowsList, Begun, Accepts, Rejects, KeptAt, Cornered, CornersFound, CountChecked, Checked, TakenOut, Left, Renoted, Stands}
use Rattle.mesh_judge.proofs.Refusing.{unless_none}
use Rattle.mesh_judge.proofs.Knowing.{first_none, first_some, refuses_is, ending_is, knows_none, knows_vertex, knows_triangle, knows_final, knows_renoted}

-- windows alike at every number are one window
pub windows_same : {T : Type 0} (w u : Window T) → ((n : ℕ) → w.at n ≡ u.at n) → w.live_count ≡ u.live_count → w.highest ≡ u.highest → w.triangles ≡ u.triangles → w ≡ u
windows_same w u a l h t = λ i. record { at = λ n. a n i; live_count = l i; highest = h i; triangles = t i }

module _ {T : Type 0} (j k : Judge T) (same_limit : live_limit k ≡ live_limit j) where
  accepts : (e : Event) (w : Window T) → refuses (live_limit j) (window_of j) e ≡ None → window_of k ≡ w
      → ((es : List Event) → KnowsList j es → refusal (live_limit j) es e ≡ None → Knows (live_limit j) w (es ++ (e ∷ []))) → Accepts j e w k
  accepts e w r s more = record {
    by_window = r;
    window = s;
    limit = same_limit;
    by_list = λ es kn.
        let h : refusal (live_limit j) es e ≡ None = sym (refuses_is (live_limit j) (window_of j) es kn e) ∙ r in
        (h, subst (λ (l : ℕ). Knows l (window_of k) (es ++ (e ∷ []))) (sym same_limit) (subst (λ (z : Window T). Knows (live_limit j) z (es ++ (e ∷ []))) (sym s) (more es kn h)));
  }

  pub accepts_vertex : (n : ℕ) (x : Live T) → refuses (live_limit j) (window_of j) (Vertex x.place n x.at) ≡ None → window_of k ≡ enters (window_of j) n x → Accepts j (Vertex x.place n x.at) (enters (window_of j) n x) k
  accepts_vertex n x r s = accepts (Vertex x.place n x.at) (enters (window_of j) n x) r s (λ es kn h. knows_vertex (live_limit j) (window_of j) es kn n x h)

  pub accepts_triangle : (p a b c : ℕ) → refuses (live_limit j) (window_of j) (Triangle p a b c) ≡ None → window_of k ≡ counted (window_of j) → Accepts j (Triangle p a b c) (counted (window_of j)) k
  accepts_triangle p a b c r s = accepts (Triangle p a b c) (counted (window_of j)) r s (λ es kn h. knows_triangle (live_limit j) (window_of j) es kn p a b c h)

  pub accepts_final : (p i : ℕ) → refuses (live_limit j) (window_of j) (Finalization p i) ≡ None → window_of k ≡ leaves (window_of j) i → Accepts j (Finalization p i) (leaves (window_of j) i) k
  accepts_final p i r s = accepts (Finalization p i) (leaves (window_of j) i) r s (λ es kn h. knows_final (live_limit j) (window_of j) es kn p i h)

  pub rejects : (e : Event) (c : Cause) → refuses (live_limit j) (window_of j) e ≡ Some c → window_of k ≡ window_of j → Rejects j e c k
  rejects e c r s = record { by_window = r; window = s; limit = same_limit; by_list = λ es kn. sym (refuses_is (live_limit j) (window_of j) es kn e) ∙ r }

-- What a table's contract says, here and elsewhere, is the function changed at one number.
abbrev at_in : {T : Type 0} {n : ℕ} → Table (Live T) n → ℕ → Option (Live T)
at_in t m = record_at t (vertex_key m)

put_is : {A : Type 0} (f g : ℕ → A) (m : ℕ) (x : A) → g m ≡ x → ((n : ℕ) → (n ≡ m → ⊥) → g n ≡ f n) → (n : ℕ) → g n ≡ put f m x n
put_is {A} f g m x here other n = at (eqb n m) refl
  where
    at : (b : Bool) → eqb n m ≡ b → g n ≡ cond b x (f n)
    at true e = ap g (eqb-true n m e) ∙ here
    at false e = other n (eqb-false n m e)

pub elsewhere : {T : Type 0} {n : ℕ} (t u : Table (Live T) n) (m : ℕ) (o : Option (Live T)) → Sets t u (vertex_key m) o → (i : ℕ) → at_in u i ≡ put (at_in t) m o i
elsewhere t u m o s = put_is (at_in t) (at_in u) m o s.here (λ i ne. s.other (vertex_key i) (λ e. ne (ap (λ (q : Key). q.first) e)))

pub lowest_first : {T : Type 0} {n : ℕ} (t : Table (Live T) n) (m : ℕ) (o : Option (Live T)) → Lowest t m o → first (at_in t) m ≡ o
lowest_first t m None h = first_none (at_in t) m h
lowest_first t m (Some v) (i, le, e, none) = first_some (at_in t) m i v le e none

-- The records of a judge's table keep what they keep.

pub kept_sound : {T : Type 0} {n : ℕ} (t : Table (Live T) n) (highest : ℕ) → (Stray t highest → ⊥) → (k : Key) (v : Live T) → record_at t k ≡ Some v → sound_record highest k v ≡ true
kept_sound t highest sound k v e = at (sound_record highest k v) refl
  where
    at : (b : Bool) → sound_record highest k v ≡ b → b ≡ true
    at true q = refl
    at false q = absurd (sound (k, v, e, q))

pub record_in_space : {T : Type 0} {n : ℕ} (t : Table (Live T) n) (highest : ℕ) → (Stray t highest → ⊥) → (m : ℕ) (v : Live T) → at_in t m ≡ Some v → in_space v.at ≡ true
record_in_space t highest sound m v e = (and_parts (in_space v.at) (leb m highest) (kept_sound t highest sound (vertex_key m) v e)).0

-- a number above the highest has no record
pub none_above : {T : Type 0} {n : ℕ} (t : Table (Live T) n) (highest m : ℕ) → (Stray t highest → ⊥) → highest < m → is_some (at_in t m) ≡ true → ⊥
none_above {T} t highest m sound l h = at (at_in t m) refl h
  where
    at : (o : Option (Live T)) → at_in t m ≡ o → is_some o ≡ true → ⊥
    at None e s = both_ways false refl s
    at (Some v) e s = let q = leb-true m highest (and_parts (in_space v.at) (leb m highest) (kept_sound t highest sound (vertex_key m) v e)).1 in omega arith

no_stray : {T : Type 0} {n : ℕ} (t : Table (Live T) n) (highest : ℕ) → ((k : Key) (v : Live T) → record_at t k ≡ Some v → sound_record highest k v ≡ true) → Stray t highest → ⊥
no_stray t highest h (k, v, e, f) = both_ways (sound_record highest k v) f (h k v e)

module _ {T : Type 0} {n : ℕ} (t u : Table (Live T) n) (highest : ℕ) (sound : Stray t highest → ⊥) where
  pub entered_stray : (m : ℕ) (x : Live T) → highest < m → in_space x.at ≡ true → Sets t u (vertex_key m) (Some x) → Stray u m → ⊥
  entered_stray m x l s c = no_stray u m (λ k v e. at k v e (key_cases k (vertex_key m)))
    where
      at : (k : Key) (v : Live T) → record_at u k ≡ Some v → (k ≡ vertex_key m) ⊎ (k ≡ vertex_key m → ⊥) → sound_record m k v ≡ true
      at k v e (inl q) =
          let f : x ≡ v = same_Some x v (sym c.here ∙ ap (record_at u) (sym q) ∙ e) in
          and_from _ _ (ap (λ (z : Live T). in_space z.at) (sym f) ∙ s) (ap (λ (z : Key). leb z.first m) q ∙ le-leb m m (omega arith))
      at k v e (inr q) =
          let a = kept_sound t highest sound k v (sym (c.other k q) ∙ e) in
          let b = and_parts (in_space v.at) (leb k.first highest) a in
          and_from _ _ b.0 (le-leb k.first m (let d = leb-true k.first highest b.1 in omega arith))

  pub gone_stray : (q : Key) → Sets t u q None → Stray u highest → ⊥
  gone_stray q c = no_stray u highest (λ k v e. at k v e (key_cases k q))
    where
      at : (k : Key) (v : Live T) → record_at u k ≡ Some v → (k ≡ q) ⊎ (k ≡ q → ⊥) → sound_record highest k v ≡ true
      at k v e (inl p) = absurd (none-some v (sym (ap (record_at u) p ∙ c.here) ∙ e))
      at k v e (inr p) = kept_sound t highest sound k v (sym (c.other k p) ∙ e)

  pub renoted_stray : (m : ℕ) (v : Live T) (x : T) → record_at t (vertex_key m) ≡ Some v
      → Sets t u (vertex_key m) (Some (record { place = v.place; at = v.at; note = x })) → Stray u highest → ⊥
  renoted_stray m v x f c = no_stray u highest (λ k y e. at k y e (key_cases k (vertex_key m)))
    where
      at : (k : Key) (y : Live T) → record_at u k ≡ Some y → (k ≡ vertex_key m) ⊎ (k ≡ vertex_key m → ⊥) → sound_record highest k y ≡ true
      at k y e (inl q) =
          let s : record { place = v.place; at = v.at; note = x } ≡ y = same_Some _ y (sym c.here ∙ ap (record_at u) (sym q) ∙ e) in
          ap (λ (z : Live T). in_space z.at && leb k.first highest) (sym s)
          ∙ kept_sound t highest sound k v (ap (record_at t) q ∙ f)
      at k y e (inr q) = kept_sound t highest sound k y (sym (c.other k q) ∙ e)

-- A new judge.

pub empty_stray : {T : Type 0} {n : ℕ} (t : Table (Live T) n) (most highest : ℕ) → Empty most t → Stray t highest → ⊥
empty_stray t most highest e (k, v, q, f) = none-some v (sym (e.none k) ∙ q)

pub begun : {T : Type 0} (j : Judge T) (most : ℕ) → Empty most j.live → j.highest ≡ 0 → j.triangles ≡ 0 → Begun most j
begun {T} j most e h t =
    let w : window_of j ≡ fresh = windows_same (window_of j) fresh (λ n. e.none (vertex_key n)) e.records h t in
    record { window = w; limit = e.limit; knows = subst (λ (z : Window T). Knows (live_limit j) z []) (sym w) (knows_none (live_limit j)) }

-- A vertex.

module _ {T : Type 0} (limit : ℕ) (w : Window T) (p n : ℕ) (v : Point) (r : refuses limit w (Vertex p n v) ≡ None) where
  pub record FitsIn : Type 0 where
    pub in_range : (in_space v && vertex_number n) ≡ true
    pub above : w.highest < n
    pub room : w.live_count < limit

  pub fits_in : FitsIn
  fits_in =
      let u = unless_none _ _ _ r in
      let x = unless_none _ _ _ u.1 in
      record { in_range = u.0; above = ltb-true _ _ x.0; room = ltb-true _ _ (unless_none _ _ _ x.1).0 }

pub in_space_of : (n : ℕ) (v : Point) → (in_space v && vertex_number n) ≡ true → in_space v ≡ true
in_space_of n v h = (and_parts (in_space v) (vertex_number n) h).0

pub number_of : (n : ℕ) (v : Point) → (in_space v && vertex_number n) ≡ true → n ≤ 100000000
number_of n v h = leb-true n 100000000 (and_parts (leb 1 n) (leb n 100000000) (and_parts (in_space v) (vertex_number n) h).1).1

pub entered : {T : Type 0} (j k : Judge T) (n : ℕ) (x : Live T) (q : Key) → q ≡ vertex_key n → records k.live ≡ records j.live + 1 → Sets j.live k.live q (Some x) → k.highest ≡ n → k.triangles ≡ j.triangles
    → refuses (live_limit j) (window_of j) (Vertex x.place n x.at) ≡ None → Accepts j (Vertex x.place n x.at) (enters (window_of j) n x) k
entered j k n x q e c s h t r =
    accepts_vertex j k s.limit n x r
    (windows_same (window_of k) (enters (window_of j) n x) (elsewhere j.live k.live n (Some x) (subst (λ (z : Key). Sets j.live k.live z (Some x)) e s)) c h t)

-- The insertion of an accepted vertex is not refused.
pub not_refused : {T : Type 0} (j : Judge T) (u : Table (Live T) 2048) (n : ℕ) (x : Live T) (q : Key) (r : Result (Unit {0}) InsertError) → q ≡ vertex_key n → refuses (live_limit j) (window_of j) (Vertex x.place n x.at) ≡ None → Inserted j.live u q x r → IsOk r
not_refused j u n x q (Ok y) e r h = search rules
not_refused j u n x q (Err o) e r h = absurd (at o h)
  where
    f : FitsIn (live_limit j) (window_of j) x.place n x.at r
    f = fits_in (live_limit j) (window_of j) x.place n x.at r

    at : (o : InsertError) → Inserted j.live u q x (Err o) → ⊥
    at KeyPresent (s, kept) = none_above j.live j.highest n j.sound f.above (ap (λ (z : Key). is_some (record_at j.live z)) (sym e) ∙ s)
    at AtLimit (s, full, kept) = let l = f.room in omega arith

-- A triangle.

module _ {T : Type 0} (limit : ℕ) (w : Window T) (p a b c : ℕ) where
  pub refuses_corner : (is_some (w.at a) && is_some (w.at b) && is_some (w.at c)) ≡ false → refuses limit w (Triangle p a b c) ≡ Some CornerNotLive
  refuses_corner h = ap (λ z. unless z CornerNotLive (unless (ltb w.triangles 100000000) TooManyTriangles None)) h

  module _ (s : Corners T) (f : CornersFound w a b c (Ok s)) where
    all_there : refuses limit w (Triangle p a b c) ≡ unless (ltb w.triangles 100000000) TooManyTriangles None
    all_there = λ i. unless (is_some (f.0 i) && is_some (f.1 i) && is_some (f.2 i)) CornerNotLive (unless (ltb w.triangles 100000000) TooManyTriangles None)

    pub refuses_many : 100000000 ≤ w.triangles → refuses limit w (Triangle p a b c) ≡ Some TooManyTriangles
    refuses_many l = all_there ∙ ap (λ z. unless z TooManyTriangles None) (le-ltb w.triangles 100000000 l)

    pub refuses_no_triangle : w.triangles < 100000000 → refuses limit w (Triangle p a b c) ≡ None
    refuses_no_triangle l = all_there ∙ ap (λ z. unless z TooManyTriangles None) (lt-ltb w.triangles 100000000 l)

-- A triangle that is checked, and not counted.
module _ {T : Type 0} (j : Judge T) (a b c : ℕ) where
  checked : (r : Result (Unit {0}) Cause) → ((p : ℕ) → refuses (live_limit j) (window_of j) (Triangle p a b c) ≡ result_err r) → Checked j a b c r
  checked r h = record {
    by_window = h;
    by_list = λ p es kn. sym (refuses_is (live_limit j) (window_of j) es kn (Triangle p a b c)) ∙ h p;
  }

  pub corners_checked : (q : Cause) → CornersFound (window_of j) a b c (Err q) → Checked j a b c (Err q)
  corners_checked q (e, f) = checked (Err q) (λ p. refuses_corner (live_limit j) (window_of j) p a b c e ∙ ap (λ (x : Cause). Some x) (sym f))

  pub count_checked : (s : Corners T) (r : Result (Unit {0}) Cause) → CornersFound (window_of j) a b c (Ok s) → CountChecked (window_of j) r → Checked j a b c r
  count_checked s (Ok u) f l = checked (Ok u) (λ p. refuses_no_triangle (live_limit j) (window_of j) p a b c s f l)
  count_checked s (Err q) f (l, e) =
      checked (Err q) (λ p. refuses_many (live_limit j) (window_of j) p a b c s f l ∙ ap (λ (x : Cause). Some x) (sym e))

pub first_gone : {A : Type 0} (x y z : Option A) → x ≡ None → (is_some x && is_some y && is_some z) ≡ false
first_gone {A} x y z e = ap (λ (o : Option A). is_some o && is_some y && is_some z) e

pub second_gone : {A : Type 0} (x y z : Option A) → y ≡ None → (is_some x && is_some y && is_some z) ≡ false
second_gone {A} x y z e = ap (λ (o : Option A). is_some x && is_some o && is_some z) e ∙ at (is_some x)
  where
    at : (b : Bool) → (b && false && is_some z) ≡ false
    at true = refl
    at false = refl

pub third_gone : {A : Type 0} (x y z : Option A) → z ≡ None → (is_some x && is_some y && is_some z) ≡ false
third_gone {A} x y z e = ap (λ (o : Option A). is_some x && is_some y && is_some o) e ∙ at (is_some x && is_some y)
  where
    at : (b : Bool) → (b && false) ≡ false
    at true = refl
    at false = refl

pub cornered : {T : Type 0} (j : Judge T) (a b c : ℕ) (s : Corners T) → CornersFound (window_of j) a b c (Ok s) → Cornered (window_of j) a b c s
cornered j a b c s f = record { first = kept a s.a f.0; second = kept b s.b f.1; third = kept c s.c f.2 }
  where
    kept : (n : ℕ) (x : Live _) → at_in j.live n ≡ Some x → KeptAt (window_of j) n x
    kept n x e = (e, record_in_space j.live j.highest j.sound n x e)

-- A finalization.

module _ {T : Type 0} (j k : Judge T) (p i : ℕ) where
  pub left : (x : Live T) → TakenOut j i (Some x) k → Accepts j (Finalization p i) (leaves (window_of j) i) k × ((window_of j).at i ≡ Some x) × ((window_of k).live_count + 1 ≡ (window_of j).live_count)
  left x t =
      let e : (window_of j).at i ≡ Some x = ap (record_at j.live) (sym t.key_is) ∙ sym t.table.0 in (
        accepts_final j k t.table.2.limit p i (ap (λ (o : Option (Live T)). unless (is_some o) NotLive None) e)
            (windows_same (window_of k) (leaves (window_of j) i) (elsewhere j.live k.live i None (subst (λ (z : Key). Sets j.live k.live z None) t.key_is t.table.2)) (less (records k.live) (records j.live) t.table.1) t.highest t.triangles),
        e,
        t.table.1,
      )
    where
      less : (m n : ℕ) → m + 1 ≡ n → m ≡ n - 1
      less m n e = omega arith

  pub not_left : TakenOut j i None k → Rejects j (Finalization p i) NotLive k
  not_left t =
      let s : Sets j.live k.live (vertex_key i) None = subst (λ (z : Key). Sets j.live k.live z None) t.key_is t.table.2 in
      let e : (window_of j).at i ≡ None = ap (record_at j.live) (sym t.key_is) ∙ sym t.table.0 in
      rejects j k s.limit (Finalization p i) NotLive (ap (λ (o : Option (Live T)). unless (is_some o) NotLive None) e)
      (windows_same (window_of k) (window_of j) (λ n. elsewhere j.live k.live i None s n ∙ put_same n (eqb n i) refl e) (same (records k.live) (records j.live) t.table.1) t.highest t.triangles)
    where
      same : (m n : ℕ) → m + 0 ≡ n → m ≡ n
      same m n e = omega arith

      put_same : (n : ℕ) (b : Bool) → eqb n i ≡ b → (window_of j).at i ≡ None → cond b None (at_in j.live n) ≡ at_in j.live n
      put_same n true q e = sym (ap (at_in j.live) (eqb-true n i q) ∙ e)
      put_same n false q e = refl

pub finalized : {T : Type 0} (j k : Judge T) (i : ℕ) (o : Option (Live T)) → TakenOut j i o k → Left j i (ok_or o NotLive) k
finalized j k i None t = λ p. not_left j k p i t
finalized j k i (Some x) t = let l = left j k 0 i x t in ((λ p. (left j k p i x t).0), l.1, l.2)

-- Something else noted of a vertex that was found.

pub record Resets {T : Type 0} {n : ℕ} (t u : Table (Live T) n) (m : ℕ) (v x : Live T) (r : Bool) : Type 0 where
  pub done : r ≡ true
  pub found : record_at t (vertex_key m) ≡ Some v
  pub count : records u ≡ records t
  pub sets : Sets t u (vertex_key m) (Some x)

pub resets : {T : Type 0} {n : ℕ} (t u : Table (Live T) n) (m : ℕ) (q : Key) (v x : Live T) (r : Bool)
    → q ≡ vertex_key m → Some v ≡ record_at t (vertex_key m) → Changed t u q x r → Resets t u m v x r
resets {T} t u m q v x true e f (s, c, h) = record {
  done = refl;
  found = sym f;
  count = c;
  sets = subst (λ (z : Key). Sets t u z (Some x)) e h;
}
resets t u m q v x false e f (s, h) = absurd (none-some v (sym s ∙ ap (record_at t) e ∙ sym f))

pub renoted_judge : {T : Type 0} (j k : Judge T) (n : ℕ) (v : Live T) (x : T) (r : Bool)
    → Resets j.live k.live n v (record { place = v.place; at = v.at; note = x }) r → k.highest ≡ j.highest → k.triangles ≡ j.triangles → Renoted j n x r k
renoted_judge {T} j k n v x r s h t = record {
  live = s.done ∙ ap is_some (sym s.found);
  window = same ∙ ap (renotes (window_of j) n x) (sym s.found);
  limit = s.sets.limit;
  by_list = λ es kn.
      subst (λ (l : ℕ). Knows l (window_of k) es) (sym s.sets.limit)
      (subst (λ (z : Window T). Knows (live_limit j) z es) (sym same) (knows_renoted (live_limit j) (window_of j) es kn n v x s.found));
}
  where
    same : window_of k ≡ renoted (window_of j) n v x
    same =
        windows_same (window_of k) (renoted (window_of j) n v x)
        (elsewhere j.live k.live n (Some (record { place = v.place; at = v.at; note = x })) s.sets) s.count h t

-- How it stands.

module _ {T : Type 0} (j : Judge T) (layer : LayerName) where
  stands_by_window : (below s : Standing) → s ≡ ending layer (window_of j) below → Stands j layer below s
  stands_by_window below s e = record { by_window = e; by_list = λ es kn. e ∙ ending_is (live_limit j) (window_of j) es kn layer below }

  pub stands_at_end : (below s : Standing) (o : Option (Live T)) → below ≡ Ended → Lowest j.live j.highest o → s ≡ end_by layer o → Stands j layer below s
  stands_at_end below s o e l q = stands_by_window below s (q ∙ ap (end_by layer) (sym (lowest_first j.live j.highest o l)) ∙ ap (ending layer (window_of j)) (sym e))

  pub stands_before_end : (below : Standing) → (below ≡ Waiting) ⊎ ((f : Fault) × (below ≡ Faulty f)) → Stands j layer below below
  stands_before_end below (inl e) = stands_by_window below below (e ∙ ap (ending layer (window_of j)) (sym e))
  stands_before_end below (inr (f, e)) = stands_by_window below below (e ∙ ap (ending layer (window_of j)) (sym e))
