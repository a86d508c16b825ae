-- What the calls of the table do to the open edges that it holds.
use Rattle.std.proofs.Common.{◌≡◌, ℕ, ◌+◌, ◌-◌, ◌≤◌, min, max, Bool, true, false, cond, ◌&&◌, ◌||◌, ◌==◌, [], ◌∷◌, is_some, Some, None, Option, ⊎_elim, refl, sym, ap, subst, ◌∙◌, arith}
use Rattle.std.proofs.Math.Nat.{min_comm, max_comm}
use Rattle.std.proofs.lemmas.Bool.{both_ways, leb-true}
use Rattle.std.proofs.lemmas.Option.{none-some}
use Rattle.std.proofs.lemmas.Bool.Decides.{nat_tests}
use Rattle.mesh_table.specs.declared.key.Key.{Key}
use Rattle.mesh_table.specs.declared.table.Table.{Table}
use Rattle.mesh_table.specs.Keys.{edge_key}
use Rattle.mesh_table.specs.Tables.{record_at, records, Sets, Removed, Changed}
use Rattle.mesh_edges.specs.declared.edge.Edge.{Edge}
use Rattle.mesh_edges.specs.Bordering.{edge, all_different, uses_of}
use Rattle.mesh_edge_windows.specs.declared.open_edge.OpenEdge.{OpenEdge}
use Rattle.mesh_edge_windows.specs.Uses.{used_by, first_used, used_again}
use Rattle.mesh_edge_windows.specs.Edges.{Edges, no_edges, joins, newly, use_edge, use_all}
use Rattle.mesh_edge_windows.proofs.Joining.{joins_cases}
use Rattle.mesh_edge_windows.proofs.Opening.{edges_same}
use Rattle.mesh_border.specs.declared.open_edges.OpenEdges.{OpenEdges}
use Rattle.mesh_border.specs.OpenEdges.{edges_of, most_of, fits, without, TakenOut}

-- keys are the same where the ends are, in either order
key_swap : (a b : ℕ) → edge_key a b ≡ edge_key b a
key_swap a b = λ i. record { first = min_comm a b i; second = max_comm a b i }

joined_key : (a b : ℕ) (e : Edge) → joins a b e ≡ true → edge_key a b ≡ edge_key e.from e.to
joined_key a b e h =
    ⊎_elim (λ (p : (a ≡ e.from) × (b ≡ e.to)). λ i. edge_key (p.0 i) (p.1 i))
    (λ (p : (a ≡ e.to) × (b ≡ e.from)). (λ i. edge_key (p.0 i) (p.1 i)) ∙ key_swap e.to e.from)
    (joins_cases a b e h)

same_ends : (a b c d : ℕ) → min a b ≡ min c d → max a b ≡ max c d → (a == c && b == d || a == d && b == c) ≡ true
same_ends a b c d p q = grind (arith, nat_tests)

key_joined : (a b : ℕ) (e : Edge) → edge_key a b ≡ edge_key e.from e.to → joins a b e ≡ true
key_joined a b e h = same_ends a b e.from e.to (ap (λ (k : Key). k.first) h) (ap (λ (k : Key). k.second) h)

module _ {n : ℕ} (t u : Table OpenEdge n) where
  abbrev held : Table OpenEdge n → Edges
  held s = record { between = λ a b. record_at s (edge_key a b); count = records s }

  -- u is t, with w at the key of an edge
  set_at : (e : Edge) (w : Option OpenEdge) → Sets t u (edge_key e.from e.to) w
      → (a b : ℕ) (x : Bool) → joins a b e ≡ x → (held u).between a b ≡ cond x w ((held t).between a b)
  set_at e w s a b true h = ap (record_at u) (joined_key a b e h) ∙ s.here
  set_at e w s a b false h = s.other (edge_key a b) (λ q. both_ways (joins a b e) h (key_joined a b e q))

  used_at : (e : Edge) (w : OpenEdge) → w ≡ used_by ((held t).between e.from e.to) e → Sets t u (edge_key e.from e.to) (Some w)
      → (a b : ℕ) → (held u).between a b ≡ (use_edge (held t) e).between a b
  used_at e w p s a b = set_at e (Some w) s a b (joins a b e) refl ∙ go (joins a b e) refl
    where
      was : Option OpenEdge
      was = (held t).between a b

      go : (x : Bool) → joins a b e ≡ x → cond x (Some w) was ≡ cond x (Some (used_by was e)) was
      go true h = ap Some p ∙ ap (λ (k : Key). Some (used_by (record_at t k) e)) (sym (joined_key a b e h))
      go false h = refl

  new_if : (k : Key) (a b : ℕ) (o : Option OpenEdge) → k ≡ edge_key a b → record_at t k ≡ o
      → newly (held t) a b ≡ cond (is_some o) 0 1
  new_if k a b o q d = ap (λ (x : Option OpenEdge). cond {A = ℕ} (is_some x) 0 1) (ap (record_at t) (sym q) ∙ d)

  used : (e : Edge) (k : Key) (o : Option OpenEdge) (w : OpenEdge) → k ≡ edge_key e.from e.to → record_at t k ≡ o
      → w ≡ used_by o e → records u ≡ records t + cond (is_some o) 0 1 → Sets t u k (Some w)
      → held u ≡ use_edge (held t) e
  used e k o w q d p m s =
      let before : o ≡ (held t).between e.from e.to = sym d ∙ ap (record_at t) q in
      edges_same (held u) (use_edge (held t) e)
      (used_at e w (p ∙ ap (λ (x : Option OpenEdge). used_by x e) before) (subst (λ (x : Key). Sets t u x (Some w)) q s))
      (m ∙ ap (λ z. records t + z) (sym (new_if k e.from e.to o q d)))

  taken : (k : Key) (a b : ℕ) (r : Option OpenEdge) → k ≡ edge_key a b → Removed t u k r → held u ≡ without (held t) a b
  taken k a b r q h =
      let was : r ≡ (held t).between a b = h.0 ∙ ap (record_at t) q in
      edges_same (held u) (without (held t) a b)
      (λ x y. set_at (edge 0 a b) None (subst (λ (z : Key). Sets t u z None) q h.2) x y (joins x y (edge 0 a b)) refl)
      (fewer (records u) (records t) _ _ h.1 (ap (λ (z : Option OpenEdge). cond (is_some z) 1 0) was))
    where
      fewer : (m n i j : ℕ) → m + i ≡ n → i ≡ j → m ≡ n - j
      fewer m n i j p q = omega arith

-- either end may be named first
pub edges_either : (o : OpenEdges) (a b : ℕ) → (edges_of o).between a b ≡ (edges_of o).between b a
edges_either o a b = ap (record_at o.table) (key_swap a b)

-- what the calls of the table make of the open edges
pub changed_edge : (o : OpenEdges) (u : Table OpenEdge 8192) (e : Edge) (k : Key) (f : Option OpenEdge) (x w : OpenEdge)
    → k ≡ edge_key e.from e.to → f ≡ record_at o.table k → f ≡ Some x → w ≡ used_again x → records u ≡ records o.table
    → Sets o.table u k (Some w) → edges_of (record { table = u }) ≡ use_edge (edges_of o) e
changed_edge o u e k f x w p q d a m s = used o.table u e k (Some x) w p (sym q ∙ d) a (omega (arith, m)) s

pub changed_open : (o : OpenEdges) (u : Table OpenEdge 8192) (e : Edge) (k : Key) (f : Option OpenEdge) (x w : OpenEdge) (b : Bool)
    → Changed o.table u k w b → k ≡ edge_key e.from e.to → f ≡ record_at o.table k → f ≡ Some x → w ≡ used_again x
    → edges_of (record { table = u }) ≡ use_edge (edges_of o) e
changed_open o u e k f x w true (h, m, s) p q d a = changed_edge o u e k f x w p q d a m s
changed_open o u e k f x w false (h, s) p q d a = absurd (none-some x (sym h ∙ sym q ∙ d))

pub none_open : (u : Table OpenEdge 8192) → records u ≡ 0 → ((q : Key) → record_at u q ≡ None) → edges_of (record { table = u }) ≡ no_edges
none_open u c n = edges_same (edges_of (record { table = u })) no_edges (λ a b. n (edge_key a b)) c

pub inserted_edge : (o : OpenEdges) (u : Table OpenEdge 8192) (e : Edge) (k : Key) (f : Option OpenEdge) (w : OpenEdge)
    → k ≡ edge_key e.from e.to → f ≡ record_at o.table k → f ≡ None → w ≡ first_used e → records u ≡ records o.table + 1
    → Sets o.table u k (Some w) → edges_of (record { table = u }) ≡ use_edge (edges_of o) e
inserted_edge o u e k f w p q d a m s = used o.table u e k None w p (sym q ∙ d) a m s

pub closed_edge : (o : OpenEdges) (u : Table OpenEdge 8192) (k : Key) (a b : ℕ) (r : Option OpenEdge) → Removed o.table u k r
    → k ≡ edge_key a b → TakenOut o a b r (record { table = u })
closed_edge o u k a b r h q = record {
  was = h.0 ∙ ap (record_at o.table) q;
  edges = taken o.table u k a b r q h;
  most = h.2.limit;
}

-- A triangle with different corners uses three edges.
uses_three : (t : Edges) (p a b c : ℕ) → all_different a b c ≡ true
    → use_all t (uses_of p a b c) ≡ use_edge (use_edge (use_edge t (edge p a b)) (edge p b c)) (edge p c a)
uses_three t p a b c d = ap (λ (z : Bool). use_all t (cond z (edge p a b ∷ edge p b c ∷ edge p c a ∷ []) [])) d

-- Where all three fit, the second does once the first is used, and the third after that.
all_fit : (o : OpenEdges) (p a b c : ℕ) → all_different a b c ≡ true → fits o p a b c ≡ true
    → (use_edge (use_edge (use_edge (edges_of o) (edge p a b)) (edge p b c)) (edge p c a)).count ≤ most_of o
all_fit o p a b c d h =
    subst (λ (t : Edges). t.count ≤ most_of o) (uses_three (edges_of o) p a b c d)
    (leb-true (use_all (edges_of o) (uses_of p a b c)).count (most_of o) h)

pub second_fits : (o u : OpenEdges) (p a b c : ℕ) → all_different a b c ≡ true → fits o p a b c ≡ true
    → edges_of u ≡ use_edge (edges_of o) (edge p a b) → most_of u ≡ most_of o
    → (edges_of u).count + newly (edges_of u) b c ≤ most_of u
second_fits o u p a b c d h e m =
    let r = subst (λ (t : Edges). (use_edge (use_edge t (edge p b c)) (edge p c a)).count ≤ most_of o) (sym e)
    (all_fit o p a b c d h) in
    omega (arith, r, m)

pub third_fits : (o u v : OpenEdges) (p a b c : ℕ) → all_different a b c ≡ true → fits o p a b c ≡ true
    → edges_of u ≡ use_edge (edges_of o) (edge p a b) → edges_of v ≡ use_edge (edges_of u) (edge p b c)
    → most_of v ≡ most_of o → (edges_of v).count + newly (edges_of v) c a ≤ most_of v
third_fits o u v p a b c d h e f m =
    let g = f ∙ ap (λ (t : Edges). use_edge t (edge p b c)) e in
    let r = subst (λ (t : Edges). (use_edge t (edge p c a)).count ≤ most_of o) (sym g) (all_fit o p a b c d h) in
    omega (arith, r, m)

pub three_used : (o u v w : OpenEdges) (p a b c : ℕ) → all_different a b c ≡ true
    → edges_of u ≡ use_edge (edges_of o) (edge p a b) → edges_of v ≡ use_edge (edges_of u) (edge p b c)
    → edges_of w ≡ use_edge (edges_of v) (edge p c a) → edges_of w ≡ use_all (edges_of o) (uses_of p a b c)
three_used o u v w p a b c d e f g =
    g ∙ ap (λ (t : Edges). use_edge t (edge p c a)) (f ∙ ap (λ (t : Edges). use_edge t (edge p b c)) e)
    ∙ sym (uses_three (edges_of o) p a b c d)
