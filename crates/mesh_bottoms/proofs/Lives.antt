-- Events that introduce the numbers 1, 2, .. in order and finalize them in order keep few vertices live.
use Rattle.std.proofs.Common.{◌≡◌, ℕ, zero, suc, ◌+◌, ◌-◌, ◌<◌, ◌≤◌, Bool, true, false, cond, not, eqb, ◌⊎◌, List, [], ◌∷◌, ◌++◌, length, filter, sym, refl, ap, ◌∙◌, inl, inr, append_assoc, append-nil, arith}
use Rattle.std.specs.List.{range_with_len}
use Rattle.std.proofs.iter.Rest.{range_with_len_last}
use Rattle.std.proofs.lemmas.Bool.{or_right, cases_lt}
use Rattle.std.proofs.lemmas.List.Folds.{list_any-append}
use Rattle.mesh_stream.specs.declared.event.Point.{Point}
use Rattle.mesh_stream.specs.declared.event.Event.{Event}
use Rattle.mesh_stream.specs.declared.event.Event.TheVariants.{Vertex, Triangle, Finalization}
use Rattle.mesh_stream.specs.Lists.{has}
use Rattle.mesh_stream.specs.Events.{introduced, finalized, placed}
use Rattle.mesh_stream.specs.Live.{live, width_after}
use Rattle.mesh_stream.proofs.Having.{has_left, has_self}
use Rattle.mesh_stream.proofs.Views.{finalized-++, introduced_v, introduced_t, introduced_f, finalized_f}
use Rattle.mesh_bottoms.specs.Placing.{in_places}

has_last : (n : ℕ) (xs : List ℕ) → has n (xs ++ (n ∷ [])) ≡ true
has_last n xs = list_any-append (eqb n) xs (n ∷ []) ∙ or_right (has n xs) _ (has_self n [])

range_last : (n : ℕ) → range_with_len 1 (suc n) ≡ range_with_len 1 n ++ (suc n ∷ [])
range_last n =
    let e : n + 2 - 1 ≡ suc n = omega arith in
    let f : suc n - 1 ≡ n = omega arith in
    rw (e, f) at (range_with_len_last 1 (n + 2) (omega arith))

-- Of n numbers in a row, of which the first k fail a test, at most n - k pass it.
few_pass : (p : ℕ → Bool) (n a k : ℕ) → ((m : ℕ) → a ≤ m → m < a + k → p m ≡ false) → length (filter p (range_with_len a n)) ≤ n - k
few_pass p zero a k h = omega arith
few_pass p (suc n) a zero h = at (p a) (few_pass p n (a + 1) 0 (λ m i j. absurd (let z : ⊥ = omega arith in z)))
  where
    at : (b : Bool) → length (filter p (range_with_len (a + 1) n)) ≤ n - 0 → length (cond b (a ∷ filter p (range_with_len (a + 1) n)) (filter p (range_with_len (a + 1) n))) ≤ suc n - 0
    at true ih = omega arith
    at false ih = omega arith
few_pass p (suc n) a (suc k) h =
    let ih = few_pass p n (a + 1) k (λ m i j. h m (omega arith) (omega arith)) in
    rw (h a (omega arith) (omega arith)) (omega arith)

-- what is finalized stays so
still : (es : List Event) (e : Event) (m : ℕ) → has m (finalized es) ≡ true → has m (finalized (es ++ (e ∷ []))) ≡ true
still es e m h = rw (finalized-++ es (e ∷ [])) (has_left m (finalized es) _ h)

-- The vertices introduced so far are 1 to high, and those up to low are finalized.
pub record Held (es : List Event) (high low : ℕ) : Type 0 where
  pub born : introduced es ≡ range_with_len 1 high
  pub done : (n : ℕ) → 1 ≤ n → n ≤ low → has n (finalized es) ≡ true

few_live : (es : List Event) (high low : ℕ) → Held es high low → length (live es) ≤ high - low
few_live es high low h =
    rw h.born (few_pass (λ n. not (has n (finalized es))) high 1 low (λ m a b. ap not (h.done m a (omega arith))))

width_both : (limit : ℕ) (xs es ys : List Event) → width_after es xs ≤ limit → width_after (es ++ xs) ys ≤ limit → width_after es (xs ++ ys) ≤ limit
width_both limit [] es ys a b = rw (append-nil es) at b
width_both limit (x ∷ xs) es ys a b =
    let i = width_both limit xs (es ++ (x ∷ [])) ys (omega arith) (rw (append_assoc es (x ∷ []) xs) b) in
    omega arith

places-++ : (xs ys : List Event) (place : ℕ) → (next : ℕ) × (in_places place (xs ++ ys) ≡ in_places place xs ++ in_places next ys)
places-++ [] ys place = (place, refl)
places-++ (x ∷ xs) ys place = let t = places-++ xs ys (suc place) in (t.0, ap (λ (z : List Event). placed place x ∷ z) t.1)

-- Wherever the places begin, the events lead from one state to another, and at most w + 2 vertices are live.
pub record Leads (w : ℕ) (xs : List Event) (high low high' low' : ℕ) : Type 0 where
  pub held : (es : List Event) (place : ℕ) → Held es high low → Held (es ++ in_places place xs) high' low'
  pub narrow : (es : List Event) (place : ℕ) → Held es high low → width_after es (in_places place xs) ≤ w + 2

module _ (w : ℕ) where
  pub none : (high low : ℕ) → Leads w [] high low high low
  none high low = record { held = λ es place h. rw (append-nil es) h; narrow = λ es place h. omega arith }

  pub chain : {xs ys : List Event} {a b c d e f : ℕ} → Leads w xs a b c d → Leads w ys c d e f → Leads w (xs ++ ys) a b e f
  chain {xs} {ys} x y = record {
    held = λ es place h.
        let t = places-++ xs ys place in
        rw (t.1, sym (append_assoc es (in_places place xs) (in_places t.0 ys))) (y.held (es ++ in_places place xs) t.0 (x.held es place h));
    narrow = λ es place h.
        let t = places-++ xs ys place in
        rw t.1 (width_both (w + 2) (in_places place xs) es (in_places t.0 ys) (x.narrow es place h) (y.narrow (es ++ in_places place xs) t.0 (x.held es place h)));
  }

  one : (e : Event) (high low high' low' : ℕ) → high' ≤ low' + w + 2 → ((es : List Event) (place : ℕ) → Held es high low → Held (es ++ (placed place e ∷ [])) high' low')
      → Leads w (e ∷ []) high low high' low'
  one e high low high' low' s held = record {
    held = held;
    narrow = λ es place h. let f = few_live (es ++ (placed place e ∷ [])) high' low' (held es place h) in omega arith;
  }

  pub vertex : (high low n : ℕ) (at : Point) → n ≡ suc high → suc high ≤ low + w + 2 → Leads w (Vertex 0 n at ∷ []) high low (suc high) low
  vertex high low n at e s = one (Vertex 0 n at) high low (suc high) low s (λ es p h. record {
    born = rw (introduced_v es p n at, h.born, e) (sym (range_last high));
    done = λ m a b. still es (Vertex p n at) m (h.done m a b);
  })

  -- an event that introduces no vertex
  other : (high low : ℕ) (e : Event) → ((es : List Event) (p : ℕ) → introduced (es ++ (placed p e ∷ [])) ≡ introduced es) → high ≤ low + w + 2 → Leads w (e ∷ []) high low high low
  other high low e same s = one e high low high low s (λ es p h. record {
    born = same es p ∙ h.born;
    done = λ m i j. still es (placed p e) m (h.done m i j);
  })

  pub triangle : (high low a b c : ℕ) → high ≤ low + w + 2 → Leads w (Triangle 0 a b c ∷ []) high low high low
  triangle high low a b c = other high low (Triangle 0 a b c) (λ es p. introduced_t es p a b c)

  -- the finalization of any vertex, and that of the lowest one that is not finalized yet
  pub final : (high low i : ℕ) → high ≤ low + w + 2 → Leads w (Finalization 0 i ∷ []) high low high low
  final high low i = other high low (Finalization 0 i) (λ es p. introduced_f es p i)

  pub next_final : (high low i : ℕ) → i ≡ suc low → high ≤ suc low + w + 2 → Leads w (Finalization 0 i ∷ []) high low high (suc low)
  next_final high low i e s = one (Finalization 0 i) high low high (suc low) s (λ es p h. record {
    born = introduced_f es p i ∙ h.born;
    done = λ m a b. at es p m a b h (cases_lt low m);
  })
    where
      at : (es : List Event) (p m : ℕ) → 1 ≤ m → m ≤ suc low → Held es high low → (low < m) ⊎ (m ≤ low) → has m (finalized (es ++ (Finalization p i ∷ []))) ≡ true
      at es p m a b h (inl l) = let k : i ≡ m = omega arith in rw (finalized_f es p i, k) (has_last m (finalized es))
      at es p m a b h (inr l) = still es (Finalization p i) m (h.done m a l)
