-- The open edges at a vertex, by rising number of the other end; and what its finalization makes of the open edges.
use Rattle.std.proofs.Common.{◌≡◌, ℕ, ◌+◌, ◌-◌, ◌<◌, ◌≤◌, Bool, true, false, cond, not, ◌&&◌, ◌||◌, eqb, List, [], ◌∷◌, ◌++◌, length, Some, None, filter, Option, flat_map, option_to_list, sym, refl, ap, ◌∙◌, append-nil, arith}
use Rattle.std.specs.List.{range_with_len, AllByRecursion as All}
use Rattle.std.proofs.Math.Bool.{and-true}
use Rattle.std.proofs.lemmas.Bool.{and_right, and_parts}
use Rattle.std.proofs.lemmas.List.Elements.{filter_agree}
use Rattle.std.proofs.lemmas.List.Filters.{length-filter_both}
use Rattle.std.proofs.ByRecursion.{all_kept_by, All-weaker, kept_by_passes}
use Rattle.mesh_stream.specs.Lists.{has}
use Rattle.mesh_stream.proofs.Having.{kept_yes, kept_no}
use Rattle.mesh_judge.proofs.Living.{has_pushed}
use Rattle.mesh_edges.specs.declared.edge.Edge.{Edge}
use Rattle.mesh_edges.specs.Bordering.{same_edge, first_uses, is_open, gives, ends_at, other_end, rising}
use Rattle.mesh_edge_windows.specs.declared.open_edge.OpenEdge.{OpenEdge}
use Rattle.mesh_edge_windows.specs.declared.open_edge.Uses.TheVariants.{More}
use Rattle.mesh_edge_windows.specs.Uses.{used_by, single}
use Rattle.mesh_edge_windows.specs.Edges.{joins, number_bound, open_at, singles, close_at}
use Rattle.mesh_edge_windows.proofs.Listing.{kept_twice, kept_none, kept_inside, kept_if, flat_map_agree, flat_map_twice, flat_map_lengths}
use Rattle.mesh_edge_windows.proofs.Buckets.{rising_is, rising_length}
use Rattle.mesh_edge_windows.proofs.Joining.{same_swap, joined_same, joins_is}
use Rattle.mesh_edge_windows.proofs.Opening.{kept_of, both_live, edge_in, open_in, edges_in, edges_same, live_joined}

-- the numbers of both ends are in range
pub record InRange (e : Edge) : Type 0 where
  pub from_low : e.from < number_bound
  pub to_low : e.to < number_bound

other_in_range : (i : ℕ) (e : Edge) → InRange e → (0 ≤ other_end i e) × (other_end i e < 0 + number_bound)
other_in_range i e r = at (eqb e.from i)
  where
    at : (b : Bool) → (0 ≤ cond b e.to e.from) × (cond b e.to e.from < 0 + number_bound)
    at true = (omega arith, omega (arith, r.to_low))
    at false = (omega arith, omega (arith, r.from_low))

shuffle : (p q x y : Bool) → ((p && not x) && (q && not y)) ≡ ((p && q) && not (x || y))
shuffle false q x y = refl
shuffle true false false y = refl
shuffle true false true y = refl
shuffle true true false y = refl
shuffle true true true y = refl

live_pushed : (gone : List ℕ) (i a b : ℕ) → both_live (gone ++ (i ∷ [])) a b ≡ (both_live gone a b && not (eqb a i || eqb b i))
live_pushed gone i a b =
    ap (λ z. z && not (has b (gone ++ (i ∷ [])))) (has_pushed a i gone)
    ∙ ap (λ z. (not (has a gone) && not (eqb a i)) && z) (has_pushed b i gone)
    ∙ shuffle (not (has a gone)) (not (has b gone)) (eqb a i) (eqb b i)

taken_off : (m n k : ℕ) → m + n ≡ k → n ≡ k - m
taken_off m n k h = omega arith

-- Of the uses of one edge the first.
abbrev first_only : List Edge → List Edge
first_only [] = []
first_only (e ∷ es) = e ∷ []

not_both : (b : Bool) → (not b && b) ≡ false
not_both true = refl
not_both false = refl

first_uses_joined : (a b : ℕ) (us : List Edge) → filter (joins a b) (first_uses us) ≡ first_only (filter (joins a b) us)
first_uses_joined a b [] = refl
first_uses_joined a b (e ∷ us) = at (joins a b e) refl (first_uses_joined a b us)
  where
    other : Edge → Bool
    other f = not (same_edge e f)

    at : (t : Bool) → joins a b e ≡ t → filter (joins a b) (first_uses us) ≡ first_only (filter (joins a b) us)
        → filter (joins a b) (e ∷ filter other (first_uses us)) ≡ first_only (filter (joins a b) (e ∷ us))
    at true h ih =
        kept_yes (joins a b) e (filter other (first_uses us)) h
        ∙ ap (λ (z : List Edge). e ∷ z)
        (sym (kept_twice (joins a b) other (first_uses us))
        ∙ kept_none _ (first_uses us) (λ x. ap (λ z. not z && joins a b x) (joined_same a b e h x) ∙ not_both (joins a b x)))
        ∙ sym (ap first_only (kept_yes (joins a b) e us h))
    at false h ih =
        kept_no (joins a b) e (filter other (first_uses us)) h
        ∙ kept_inside (joins a b) other (first_uses us) (λ x k. ap not (same_swap e x ∙ joined_same a b x k e ∙ h))
        ∙ ih ∙ sym (ap first_only (kept_no (joins a b) e us h))

all_first_uses : (P : Edge → Type 0) (es : List Edge) → All P es → All P (first_uses es)
all_first_uses P [] h = tt
all_first_uses P (e ∷ es) (a, h) = (a, all_kept_by (λ f. not (same_edge e f)) P (first_uses es) (all_first_uses P es h))

-- What an edge gives by all its uses, and by what is kept of it.
kept_more : (es : List Edge) (e : Edge) → kept_of (Some (record { first = e; uses = More })) es ≡ Some (record { first = e; uses = More })
kept_more [] e = refl
kept_more (x ∷ es) e = kept_more es e

gives_is : (es : List Edge) → gives es ≡ singles (option_to_list (kept_of None es))
gives_is [] = refl
gives_is (e ∷ []) = refl
gives_is (e ∷ f ∷ es) = sym (ap (λ (o : Option OpenEdge). singles (option_to_list o)) (kept_more es e))

as_many : (es : List Edge) → length (first_only es) ≡ length (option_to_list (kept_of None es))
as_many [] = refl
as_many (e ∷ es) = at es (used_by None e)
  where
    at : (xs : List Edge) (o : OpenEdge) → 1 ≡ length (option_to_list (kept_of (Some o) xs))
    at [] o = refl
    at (x ∷ xs) o = at xs (used_by (Some o) x)

module _ (us : List Edge) (gone : List ℕ) (i : ℕ) (P : Edge → Type 0) (in_range : (e : Edge) → P e → InRange e) (all_us : All P us) where
  abbrev here : List Edge
  here = filter (ends_at i) (open_in us gone)

  -- the first use of the edge between i and j
  abbrev first_at : ℕ → List Edge
  first_at j = cond (both_live gone i j) (first_only (filter (joins i j) us)) []

  first_at_is : (j : ℕ) → filter (λ e. eqb (other_end i e) j) here ≡ first_at j
  first_at_is j =
      sym (kept_twice (λ e. eqb (other_end i e) j) (ends_at i) (open_in us gone))
      ∙ filter_agree _ (joins i j) (λ e. sym (joins_is i j e)) (open_in us gone)
      ∙ sym (kept_twice (joins i j) (is_open gone) (first_uses us))
      ∙ filter_agree _ (λ e. joins i j e && both_live gone i j) (λ e. at e (joins i j e) refl) (first_uses us)
      ∙ kept_if (joins i j) (both_live gone i j) (first_uses us)
      ∙ ap (λ (z : List Edge). cond (both_live gone i j) z []) (first_uses_joined i j us)
    where
      at : (e : Edge) (b : Bool) → joins i j e ≡ b → (is_open gone e && joins i j e) ≡ (joins i j e && both_live gone i j)
      at e true h =
          ap (λ z. is_open gone e && z) h ∙ and-true (is_open gone e) ∙ live_joined gone i j e h
          ∙ sym (ap (λ z. z && both_live gone i j) h)
      at e false h = and_right (is_open gone e) (joins i j e) h ∙ sym (ap (λ z. z && both_live gone i j) h)

  rising_here : rising i here ≡ flat_map first_at (range_with_len 0 number_bound)
  rising_here =
      rising_is i 0 number_bound here
      (All-weaker P _ (λ e p. other_in_range i e (in_range e p)) here
      (all_kept_by (ends_at i) P (open_in us gone) (all_kept_by (is_open gone) P (first_uses us) (all_first_uses P us all_us))))
      ∙ flat_map_agree _ first_at first_at_is (range_with_len 0 number_bound)

  as_many_at : (j : ℕ) → length (first_at j) ≡ length (option_to_list (edge_in us gone i j))
  as_many_at j = at (both_live gone i j)
    where
      at : (b : Bool)
          → length (cond b (first_only (filter (joins i j) us)) [])
          ≡ length (option_to_list (cond b (kept_of None (filter (joins i j) us)) None))
      at true = as_many (filter (joins i j) us)
      at false = refl

  -- as many as are found for each other end
  count_here : length here ≡ length (open_at (edges_in us gone) i)
  count_here =
      sym (rising_length i here) ∙ ap length rising_here
      ∙ flat_map_lengths first_at (λ j. option_to_list (edge_in us gone i j)) as_many_at (range_with_len 0 number_bound)

  closed_count : length (open_in us (gone ++ (i ∷ []))) ≡ length (open_in us gone) - length (open_at (edges_in us gone) i)
  closed_count =
      ap length
      (filter_agree _ (λ e. is_open gone e && not (ends_at i e)) (λ e. live_pushed gone i e.from e.to) (first_uses us)
      ∙ kept_twice (λ e. not (ends_at i e)) (is_open gone) (first_uses us))
      ∙ taken_off _ _ _ (length-filter_both (ends_at i) (λ e. not (ends_at i e)) (λ e. refl) (open_in us gone))
      ∙ ap (λ n. length (open_in us gone) - n) count_here

  closed_edge : (a b : ℕ) → edge_in us (gone ++ (i ∷ [])) a b ≡ cond (eqb a i || eqb b i) None (edge_in us gone a b)
  closed_edge a b =
      ap (λ z. cond z (kept_of None (filter (joins a b) us)) None) (live_pushed gone i a b)
      ∙ at (both_live gone a b) (eqb a i || eqb b i) (kept_of None (filter (joins a b) us))
    where
      at : (l t : Bool) (o : Option OpenEdge) → cond (l && not t) o None ≡ cond t None (cond l o None)
      at true true o = refl
      at true false o = refl
      at false true o = refl
      at false false o = refl

  pub closed_all : edges_in us (gone ++ (i ∷ [])) ≡ close_at (edges_in us gone) i
  closed_all = edges_same _ _ closed_edge closed_count

  -- What the open edges at i give by all uses of each, in their order, is what comes of the open edges found at i.
  module _ (given : Edge → List Edge) (known : (e : Edge) → P e → ends_at i e ≡ true → given e ≡ gives (filter (same_edge e) us)) where
    gives_at : (j : ℕ) → flat_map given (first_at j) ≡ singles (option_to_list (edge_in us gone i j))
    gives_at j = at (both_live gone i j)
      where
        whole : (es : List Edge) → es ≡ filter (joins i j) us → All P es → All (λ e. joins i j e ≡ true) es
            → flat_map given (first_only es) ≡ gives es
        whole [] q a b = refl
        whole (e ∷ es) q a b =
            append-nil (given e) ∙ known e a.0 (and_parts (ends_at i e) (eqb (other_end i e) j) (sym (joins_is i j e) ∙ b.0)).0
            ∙ ap gives (filter_agree (same_edge e) (joins i j) (joined_same i j e b.0) us ∙ sym q)

        at : (b : Bool)
            → flat_map given (cond b (first_only (filter (joins i j) us)) [])
            ≡ singles (option_to_list (cond b (kept_of None (filter (joins i j) us)) None))
        at true =
            whole (filter (joins i j) us) refl (all_kept_by (joins i j) P us all_us) (kept_by_passes (joins i j) us)
            ∙ gives_is (filter (joins i j) us)
        at false = refl

    pub rising_gives : flat_map given (rising i (filter (ends_at i) (open_in us gone))) ≡ singles (open_at (edges_in us gone) i)
    rising_gives =
        ap (flat_map given) rising_here ∙ flat_map_twice given first_at (range_with_len 0 number_bound)
        ∙ flat_map_agree _ _ gives_at (range_with_len 0 number_bound)
        ∙ sym (flat_map_twice (λ o. option_to_list (single o)) (λ j. option_to_list (edge_in us gone i j)) (range_with_len 0 number_bound))
