-- The open edges at a vertex, closed one by one, the one with the highest other end first.
use Rattle.std.proofs.Common.{◌≡◌, ℕ, ◌+◌, ◌-◌, ◌^◌, ◌<◌, ◌≤◌, Bool, true, false, cond, ◌||◌, ◌==◌, List, [], ◌∷◌, ◌++◌, length, get_or, is_some, Some, None, Option, ◌⊎◌, inl, inr, ⊎_elim, refl, sym, ap, subst, ◌∙◌, arith, append_assoc, append-nil, length-append, zero, suc}
use Rattle.std.specs.List.{All, push, flat_map, range_with_len}
use Rattle.std.specs.List.Sorted.{IsNonDecreasing}
use Rattle.std.specs.Option.{option_to_list}
use Rattle.std.proofs.Math.ListN.{get_or-append}
use Rattle.std.proofs.Math.Seq.{get_or-append_seam}
use Rattle.std.proofs.lemmas.Bool.{both_ways, cases_eq, or_cases, eqb-true, ne_eqb}
use Rattle.std.proofs.lemmas.Bool.Decides.{nat_tests}
use Rattle.std.proofs.lemmas.Grind.{flat_map-append}
use Rattle.std.proofs.lemmas.List.Elements.{All-from_get_or}
use Rattle.std.proofs.lemmas.Option.{none-some}
use Rattle.std.proofs.lemmas.List.Folds.{list_any_none, list_any-append}
use Rattle.mesh_stream.specs.Lists.{has}
use Rattle.mesh_edges.specs.declared.edge.Edge.{Edge}
use Rattle.mesh_edges.specs.Bordering.{edge}
use Rattle.mesh_edge_windows.specs.declared.open_edge.OpenEdge.{OpenEdge}
use Rattle.mesh_edge_windows.specs.Uses.{single}
use Rattle.mesh_edge_windows.specs.Edges.{Edges, joins, number_bound, open_at, singles, close_at}
use Rattle.mesh_edge_windows.proofs.Opening.{edges_same}
use Rattle.mesh_border.specs.OpenEdges.{without, Among}

-- ---- lists that rise, and their last
has_high : (j n : ℕ) (ks : List ℕ) → All (λ m. m ≤ n) ks → n < j → has j ks ≡ false
has_high j n ks h l = list_any_none (λ m. j == m) ks (λ i d b. ne_eqb j (get_or ks i d) (λ e. omega (arith, h i d b, e)))

last_highest : (ks : List ℕ) (k : ℕ) → IsNonDecreasing (push ks k) → All (λ m. m ≤ k) (push ks k)
last_highest ks k h i d b =
    let last : get_or (push ks k) (length ks) d ≡ k = get_or-append_seam ks k [] d in
    let long = length-append ks (k ∷ []) in
    omega (arith, h i (length ks) d (omega (arith, long)) (omega (arith, long)), last)

rising_front : (ks : List ℕ) (k : ℕ) → IsNonDecreasing (push ks k) → IsNonDecreasing ks
rising_front ks k h m n d l b =
    let p : get_or (push ks k) m d ≡ get_or ks m d = get_or-append ks (k ∷ []) d m (omega arith) in
    let q : get_or (push ks k) n d ≡ get_or ks n d = get_or-append ks (k ∷ []) d n b in
    omega (arith, h m n d l (omega (arith, length-append ks (k ∷ []))), p, q)

all_front : {A : Type 0} (P : A → Type 0) (xs : List A) (x : A) → All P (push xs x) → All P xs
all_front P xs x h m d b =
    subst P (get_or-append xs (x ∷ []) d m b) (h m d (omega (arith, length-append xs (x ∷ []))))

all_last : {A : Type 0} (P : A → Type 0) (xs : List A) (x : A) → All P (push xs x) → P x
all_last P xs x h =
    subst P (get_or-append_seam xs x [] x) (h (length xs) x (omega (arith, length-append xs (x ∷ []))))

has_other : (j k : ℕ) (ks : List ℕ) → has j (push ks k) ≡ true → (j ≡ k → ⊥) → has j ks ≡ true
has_other j k ks h n =
    ⊎_elim (λ (p : has j ks ≡ true). p) (λ (p : has j (k ∷ []) ≡ true). absurd (not_last p))
    (or_cases (has j ks) (has j (k ∷ [])) (sym (list_any-append (λ m. j == m) ks (k ∷ [])) ∙ h))
  where
    not_last : (has j (k ∷ []) ≡ true) → ⊥
    not_last p =
        ⊎_elim (λ (q : (j == k) ≡ true). n (eqb-true j k q)) (λ (q : false ≡ true). both_ways false refl q)
        (or_cases (j == k) false p)

-- ---- what numbers in a row give
none_from :
    {A : Type 0} (f : ℕ → List A) (n s : ℕ) → ((j : ℕ) → s ≤ j → f j ≡ []) → flat_map f (range_with_len s n) ≡ []
none_from f zero s h = refl
none_from {A} f (suc n) s h =
    ap (λ (z : List A). z ++ flat_map f (range_with_len (s + 1) n)) (h s (omega arith))
    ∙ none_from f n (s + 1) (λ j l. h j (omega arith))

-- k is the highest number at which f gives anything, and g gives the same but there, where it gives nothing.
module _ {A : Type 0} (f g : ℕ → List A) (k : ℕ) (high : (j : ℕ) → k < j → f j ≡ []) (gone : g k ≡ [])
    (same : (j : ℕ) → (j ≡ k → ⊥) → f j ≡ g j) where
  at_highest : (s : ℕ) (xs ys : List A) → s ≡ k → xs ≡ [] → ys ≡ [] → f s ++ xs ≡ (g s ++ ys) ++ f k
  at_highest s xs ys p q r =
      ap (λ (z : List A). f s ++ z) q ∙ append-nil (f s) ∙ ap f p
      ∙ sym (ap (λ (z : List A). (z ++ ys) ++ f k) (ap g p ∙ gone) ∙ ap (λ (z : List A). z ++ f k) r)

  below_highest : (s : ℕ) (xs ys : List A) → (s ≡ k → ⊥) → xs ≡ ys ++ f k → f s ++ xs ≡ (g s ++ ys) ++ f k
  below_highest s xs ys p q =
      ap (λ (z : List A). z ++ xs) (same s p) ∙ ap (λ (z : List A). g s ++ z) q ∙ sym (append_assoc (g s) ys (f k))

  highest_last :
      (n s : ℕ) → s ≤ k → k < s + n → flat_map f (range_with_len s n) ≡ flat_map g (range_with_len s n) ++ f k
  highest_last zero s l m = absurd (omega arith)
  highest_last (suc n) s l m = go (cases_eq s k) (highest_last n (s + 1))
    where
      xs : List A
      xs = flat_map f (range_with_len (s + 1) n)

      ys : List A
      ys = flat_map g (range_with_len (s + 1) n)

      go : (s ≡ k) ⊎ (s ≡ k → ⊥) → (s + 1 ≤ k → k < s + 1 + n → xs ≡ ys ++ f k) → f s ++ xs ≡ (g s ++ ys) ++ f k
      go (inl p) later =
          at_highest s xs ys p (none_from f n (s + 1) (λ j b. high j (omega arith)))
          (none_from g n (s + 1) (λ j b. sym (same j (λ e. omega arith)) ∙ high j (omega arith)))
      go (inr p) later = below_highest s xs ys p (later (omega arith) (omega arith))

-- ---- one edge closed
joined : (i k : ℕ) → joins i k (edge 0 i k) ≡ true
joined i k = grind (arith, nat_tests)

not_joined : (i j k : ℕ) → (j ≡ k → ⊥) → joins i j (edge 0 i k) ≡ false
not_joined i j k n = grind (arith, nat_tests)

not_elsewhere : (a b i k : ℕ) → (a == i || b == i) ≡ false → joins a b (edge 0 i k) ≡ false
not_elsewhere a b i k h = grind (arith, nat_tests)

closed_at : (t : Edges) (i k : ℕ) → (without t i k).between i k ≡ None
closed_at t i k = ap (λ (x : Bool). cond x None (t.between i k)) (joined i k)

kept_at : (t : Edges) (i k j : ℕ) → (j ≡ k → ⊥) → (without t i k).between i j ≡ t.between i j
kept_at t i k j n = ap (λ (x : Bool). cond x None (t.between i j)) (not_joined i j k n)

highest_edge : (t : Edges) (i k : ℕ) → k < 2 ^ 32 → ((j : ℕ) → k < j → t.between i j ≡ None)
    → open_at t i ≡ open_at (without t i k) i ++ option_to_list (t.between i k)
unfolding number_bound
highest_edge t i k b high =
    highest_last (λ j. option_to_list (t.between i j)) (λ j. option_to_list ((without t i k).between i j)) k
    (λ j l. ap option_to_list (high j l)) (ap option_to_list (closed_at t i k))
    (λ j n. ap option_to_list (sym (kept_at t i k j n))) number_bound 0 (omega arith) (omega arith)

one_fewer : (n x y : ℕ) (o : Option OpenEdge) → y ≡ x + length (option_to_list o) → (n - cond (is_some o) 1 0) - x ≡ n - y
one_fewer n x y None h = omega (arith, h)
one_fewer n x y (Some o) h = omega (arith, h)

close_rest : (t : Edges) (i k : ℕ)
    → open_at t i ≡ open_at (without t i k) i ++ option_to_list (t.between i k)
    → close_at (without t i k) i ≡ close_at t i
close_rest t i k h =
    edges_same (close_at (without t i k) i) (close_at t i) (λ a b. shut a b (a == i || b == i) refl)
    (one_fewer t.count (length (open_at (without t i k) i)) (length (open_at t i)) (t.between i k)
    (ap length h ∙ length-append (open_at (without t i k) i) (option_to_list (t.between i k))))
  where
    shut : (a b : ℕ) (x : Bool) → (a == i || b == i) ≡ x
        → cond x None (cond (joins a b (edge 0 i k)) None (t.between a b)) ≡ cond x None (t.between a b)
    shut a b true p = refl
    shut a b false p = ap (λ (y : Bool). cond y None (t.between a b)) (not_elsewhere a b i k p)

-- ---- some of the edges at i closed
-- There was t, and u is left; `rest` are the ends to come, and es is what was found.
pub record Halfway (t u : Edges) (i : ℕ) (rest : List ℕ) (es : List Edge) : Type 0 where
  pub among : Among u i rest
  pub rising : IsNonDecreasing rest
  pub narrow : All (λ k. k < 2 ^ 32) rest
  pub given : singles (open_at t i) ≡ singles (open_at u i) ++ es
  pub closed : close_at u i ≡ close_at t i

pub none_closed_yet : (t : Edges) (i : ℕ) (ends rest : List ℕ) (es : List Edge) → rest ≡ ends → es ≡ [] → Among t i ends
    → IsNonDecreasing ends → ((k : ℕ) → get_or ends k 0 < 2 ^ 32) → Halfway t t i rest es
none_closed_yet t i ends rest es p q among rising narrow =
    subst (λ (z : List ℕ). Halfway t t i z es) (sym p)
    (record {
      among = among;
      rising = rising;
      narrow = All-from_get_or (λ m. m < 2 ^ 32) ends 0 (λ k b. narrow k);
      given = sym (ap (λ (z : List Edge). singles (open_at t i) ++ z) q ∙ append-nil (singles (open_at t i)));
      closed = refl;
    })

none_if : (o : Option OpenEdge) → ((x : OpenEdge) → o ≡ Some x → ⊥) → o ≡ None
none_if None h = refl
none_if (Some x) h = absurd (h x refl)

none_higher : (t : Edges) (i k : ℕ) (rest : List ℕ) → Among t i (push rest k) → IsNonDecreasing (push rest k)
    → (j : ℕ) → k < j → t.between i j ≡ None
none_higher t i k rest among rising j l =
    let out = has_high j k (push rest k) (last_highest rest k rising) l in
    none_if (t.between i j) (λ x p. both_ways (has j (push rest k)) out (among j x p))

among_rest : (t : Edges) (i k : ℕ) (rest : List ℕ) → Among t i (push rest k) → Among (without t i k) i rest
among_rest t i k rest among j o h =
    ⊎_elim
    (λ (p : j ≡ k). absurd (none-some o (sym (ap (λ m. (without t i k).between i m) p ∙ closed_at t i k) ∙ h)))
    (λ (n : j ≡ k → ⊥). has_other j k rest (among j o (sym (kept_at t i k j n) ∙ h)) n) (cases_eq j k)

found_more : (us vs ws : List OpenEdge) (es : List Edge) → us ≡ vs ++ ws → singles us ++ es ≡ singles vs ++ (singles ws ++ es)
found_more us vs ws es h =
    ap (λ (z : List OpenEdge). singles z ++ es) h
    ∙ ap (λ (z : List Edge). z ++ es) (flat_map-append (λ o. option_to_list (single o)) vs ws)
    ∙ append_assoc (singles vs) (singles ws) es

-- The edge to k is closed, the last of the ends to come.
last_closed : (t u : Edges) (i k : ℕ) (rest : List ℕ) (es : List Edge) → Halfway t u i (push rest k) es
    → Halfway t (without u i k) i rest (singles (option_to_list (u.between i k)) ++ es)
last_closed t u i k rest es h =
    let last = option_to_list (u.between i k) in
    let split : open_at u i ≡ open_at (without u i k) i ++ last =
    highest_edge u i k (all_last (λ m. m < 2 ^ 32) rest k h.narrow) (none_higher u i k rest h.among h.rising) in
    record {
      among = among_rest u i k rest h.among;
      rising = rising_front rest k h.rising;
      narrow = all_front (λ m. m < 2 ^ 32) rest k h.narrow;
      given = h.given ∙ found_more (open_at u i) (open_at (without u i k) i) last es split;
      closed = close_rest u i k split ∙ h.closed;
    }

-- The same, with what a call says of it: r was kept of the edge, v is left, and fs is what is found by then.
pub one_closed : (t u v : Edges) (i k : ℕ) (all rest : List ℕ) (r : Option OpenEdge) (es fs : List Edge)
    → Halfway t u i all es → all ≡ push rest k → r ≡ u.between i k → v ≡ without u i k
    → singles (option_to_list r) ++ es ≡ fs → Halfway t v i rest fs
one_closed t u v i k all rest r es fs before a b c d =
    let h = last_closed t u i k rest es (subst (λ (z : List ℕ). Halfway t u i z es) a before) in
    let found : singles (option_to_list (u.between i k)) ++ es ≡ fs =
    ap (λ (o : Option OpenEdge). singles (option_to_list o) ++ es) (sym b) ∙ d in
    subst (λ (z : Edges). Halfway t z i rest fs) (sym c)
    (subst (λ (z : List Edge). Halfway t (without u i k) i rest z) found h)

-- what is found by that, where no edge was open, and where one was
pub none_gives : (r : Option OpenEdge) (es : List Edge) → r ≡ None → singles (option_to_list r) ++ es ≡ es
none_gives r es h = ap (λ (o : Option OpenEdge). singles (option_to_list o) ++ es) h

pub open_gives : (r : Option OpenEdge) (o : OpenEdge) (s x : Option Edge) (es : List Edge) → r ≡ Some o → s ≡ single o
    → s ≡ x → singles (option_to_list r) ++ es ≡ option_to_list x ++ es
open_gives r o s x es h k l =
    ap (λ (q : Option OpenEdge). singles (option_to_list q) ++ es) h
    ∙ ap (λ (z : List Edge). z ++ es) (append-nil (option_to_list (single o)))
    ∙ ap (λ (q : Option Edge). option_to_list q ++ es) (sym k ∙ l)

-- ---- no end to come
none_left : (t : Edges) (i : ℕ) → Among t i [] → (j : ℕ) → t.between i j ≡ None
none_left t i among j = none_if (t.between i j) (λ x p. both_ways false refl (among j x p))

none_open : (t : Edges) (i : ℕ) → Among t i [] → open_at t i ≡ []
none_open t i among =
    none_from (λ j. option_to_list (t.between i j)) number_bound 0 (λ j l. ap option_to_list (none_left t i among j))

none_to_close : (t : Edges) (i : ℕ) → ((a b : ℕ) → t.between a b ≡ t.between b a) → Among t i [] → close_at t i ≡ t
none_to_close t i either among =
    edges_same (close_at t i) t (λ a b. go a b (a == i) (b == i) refl refl)
    (ap (λ (z : List OpenEdge). t.count - length z) (none_open t i among) ∙ minus t.count)
  where
    minus : (m : ℕ) → m - 0 ≡ m
    minus m = omega arith

    go : (a b : ℕ) (x y : Bool) → (a == i) ≡ x → (b == i) ≡ y → cond (x || y) None (t.between a b) ≡ t.between a b
    go a b true y p q = sym (ap (λ m. t.between m b) (eqb-true a i p) ∙ none_left t i among b)
    go a b false true p q =
        sym (either a b ∙ ap (λ m. t.between m a) (eqb-true b i q) ∙ none_left t i among a)
    go a b false false p q = refl

pub all_closed : (t u : Edges) (i : ℕ) (rest : List ℕ) (es : List Edge) → ((a b : ℕ) → u.between a b ≡ u.between b a)
    → length rest ≡ 0 → Halfway t u i rest es → (es ≡ singles (open_at t i)) × (u ≡ close_at t i)
all_closed t u i [] es either e h = (
  sym (h.given ∙ ap (λ (z : List OpenEdge). singles z ++ es) (none_open u i h.among)),
  sym (none_to_close u i either h.among) ∙ h.closed,
)
all_closed t u i (k ∷ ks) es either e h = absurd (omega arith)
