-- The machine of the border list gives the border list of the whole mesh.
use Rattle.std.proofs.Common.{◌≡◌, ℕ, ◌<◌, ◌≤◌, Bool, true, false, cond, not, leb, List, [], ◌∷◌, ◌++◌, Some, None, filter, Option, sym, refl, ap, ◌∙◌, subst, append_assoc, append-nil, arith}
use Rattle.std.specs.List.{AllByRecursion as All}
use Rattle.std.specs.Option.{option_or}
use Rattle.std.proofs.lemmas.Bool.{and_from}
use Rattle.std.proofs.lemmas.Option.{none-some}
use Rattle.mesh_stream.specs.declared.event.Event.{Event}
use Rattle.mesh_stream.specs.declared.event.Event.TheVariants.{Vertex, Triangle, Finalization}
use Rattle.mesh_stream.specs.declared.fault.Cause.{Cause}
use Rattle.mesh_stream.specs.declared.fault.Cause.TheVariants.{TooManyOpenEdges}
use Rattle.mesh_stream.specs.declared.fault.LayerName.TheVariants.{Border}
use Rattle.mesh_stream.specs.declared.stage.Standing.{Standing}
use Rattle.mesh_stream.specs.Lists.{has}
use Rattle.mesh_stream.specs.Events.{introduced, finalized}
use Rattle.mesh_stream.specs.Live.{is_live}
use Rattle.mesh_stream.specs.Meaning.{Outcome, outcome}
use Rattle.mesh_stream.specs.Runs.{prepends}
use Rattle.mesh_stream.proofs.Having.{has_self}
use Rattle.mesh_stream.proofs.Views.{finalized_v, finalized_t, finalized_f}
use Rattle.mesh_judge.specs.Accepting.{unless, refusal, Rules, accept, accepted, accepted_after, Accepted, AcceptedAfter, stop, stop_after, stands_over, stands_by}
use Rattle.mesh_judge.specs.Windows.{Knows}
use Rattle.mesh_judge.proofs.Refusing.{triangle_ok}
use Rattle.mesh_judge.proofs.Knowing.{refuses_is, ending_is, knows_none, knows_vertex, knows_triangle, knows_final}
use Rattle.mesh_layer.specs.Machine.{after, run}
use Rattle.mesh_layer.specs.JudgingMachine.{verdict}
use Rattle.mesh_rules.proofs.Having.{has_right}
use Rattle.mesh_rules.proofs.Living.{live_not_final}
use Rattle.mesh_rules.proofs.Bounding.{bounded}
use Rattle.mesh_rules.proofs.Numbering.{loosely}
use Rattle.mesh_rules.proofs.Naming.{all_known}
use Rattle.mesh_rules.proofs.Beginnings.{accepted_ok, accepted_parts}
use Rattle.mesh_edges.specs.declared.edge.Edge.{Edge}
use Rattle.mesh_edges.specs.Bordering.{edge, all_different, uses_of, uses, same_edge, is_open, gives, gives_in, ends_at, border_after, edge_refusal, border_rules}
use Rattle.mesh_edge_windows.specs.Edges.{Edges, number_bound, use_all, close_at}
use Rattle.mesh_edge_windows.specs.Windowing.{Memory, blank, edges_refuse, memory_refuses, moves_on, hands, bordering}
use Rattle.mesh_edge_windows.specs.WholeMesh.{WholeMesh}
use Rattle.mesh_edge_windows.proofs.Opening.{edges_in, used_all}
use Rattle.mesh_edge_windows.proofs.Closing.{InRange, closed_all, rising_gives}
use Rattle.mesh_edge_windows.proofs.Using.{uses_v, uses_t, uses_f, KnownEnds, uses_known, same_uses}

-- The open edges after a list.
abbrev edges_after : List Event → Edges
edges_after es = edges_in (uses es) (finalized es)

-- What the machine remembers of the list that it accepted.
record Remembers (limit : ℕ) (m : Memory) (es : List Event) : Type 0 where
  knows : Knows limit m.window es
  edges : m.edges ≡ edges_after es

below_bound : (n : ℕ) → n ≤ 100000000 → n < number_bound
unfolding number_bound
below_bound n h = omega arith

none_of : (x y : Option Cause) → option_or x y ≡ None → x ≡ None
none_of None y e = refl
none_of (Some c) y e = absurd (none-some c (sym e))

-- what the border list accepts, the acceptance rules accept
rules_accepted : (limit most : ℕ) (xs es : List Event) → AcceptedAfter (border_rules limit most) es xs → AcceptedAfter (refusal limit) es xs
rules_accepted limit most [] es h = tt
rules_accepted limit most (x ∷ xs) es (a, h) =
    (none_of (refusal limit es x) (edge_refusal most es x) a, rules_accepted limit most xs (es ++ (x ∷ [])) h)

-- The edges of a list of accepted events.
module _ (limit : ℕ) (es : List Event) (ok : Accepted (refusal limit) es) where
  ends_known : All (KnownEnds (introduced es)) (uses es)
  ends_known = uses_known (introduced es) es (all_known limit es (loosely limit es ok))

  ends_in_range : (e : Edge) → KnownEnds (introduced es) e → InRange e
  ends_in_range e k = record { from_low = low e.from k.0; to_low = low e.to k.1 }
    where
      low : (n : ℕ) → has n (introduced es) ≡ true → n < number_bound
      low n h = below_bound n ((bounded limit es ok).numbers.small n h)

  after_triangle : (p a b c : ℕ) → refusal limit es (Triangle p a b c) ≡ None
      → use_all (edges_after es) (uses_of p a b c) ≡ edges_after (es ++ (Triangle p a b c ∷ []))
  after_triangle p a b c h =
      sym (used_all (uses_of p a b c) (uses es) (finalized es) (at (all_different a b c)))
      ∙ (λ i. edges_in (sym (uses_t es p a b c) i) (sym (finalized_t es p a b c) i))
    where
      one : (x y : ℕ) → is_live es x ≡ true → is_live es y ≡ true → is_open (finalized es) (edge p x y) ≡ true
      one x y f g = and_from _ _ (ap not (live_not_final es x f)) (ap not (live_not_final es y g))

      at : (d : Bool) → All (λ e. is_open (finalized es) e ≡ true) (cond d (edge p a b ∷ edge p b c ∷ edge p c a ∷ []) [])
      at true =
          let t = triangle_ok limit es p a b c h in
          (one a b t.first t.second, (one b c t.second t.third, (one c a t.third t.first, tt)))
      at false = tt

  after_final : (p i : ℕ) → close_at (edges_after es) i ≡ edges_after (es ++ (Finalization p i ∷ []))
  after_final p i =
      sym (closed_all (uses es) (finalized es) i (KnownEnds (introduced es)) ends_in_range ends_known)
      ∙ (λ j. edges_in (sym (uses_f es p i) j) (sym (finalized_f es p i) j))

module _ (limit most : ℕ) (m : Memory) (es : List Event) (r : Remembers limit m es) where
  goes_on : (e : Event) → refusal limit es e ≡ None → Remembers limit (moves_on m e) (es ++ (e ∷ []))
  goes_on (Vertex p n v) h = record {
    knows = knows_vertex limit m.window es r.knows n (record { place = p; at = v; note = tt }) h;
    edges = r.edges ∙ (λ i. edges_in (sym (uses_v es p n v) i) (sym (finalized_v es p n v) i));
  }
  goes_on (Triangle p a b c) h = record {
    knows = knows_triangle limit m.window es r.knows p a b c h;
    edges = ap (λ (t : Edges). use_all t (uses_of p a b c)) r.edges ∙ after_triangle limit es r.knows.accepted p a b c h;
  }
  goes_on (Finalization p i) h = record {
    knows = knows_final limit m.window es r.knows p i h;
    edges = ap (λ (t : Edges). close_at t i) r.edges ∙ after_final limit es r.knows.accepted p i;
  }

  judges : (e : Event) → memory_refuses limit most m e ≡ border_rules limit most es e
  judges e =
      ap (λ (o : Option Cause). option_or o (edges_refuse most m.edges e)) (refuses_is limit m.window es r.knows e)
      ∙ at (refusal limit es e) refl
    where
      edges_judge : (x : Event) → refusal limit es x ≡ None → edges_refuse most m.edges x ≡ edge_refusal most es x
      edges_judge (Vertex p n v) h = refl
      edges_judge (Triangle p a b c) h =
          ap (λ (t : Edges). unless (leb t.count most) TooManyOpenEdges None) (goes_on (Triangle p a b c) h).edges
      edges_judge (Finalization p i) h = refl

      at : (o : Option Cause) → refusal limit es e ≡ o
          → option_or o (edges_refuse most m.edges e) ≡ option_or o (edge_refusal most es e)
      at None h = edges_judge e h
      at (Some c) h = refl

  -- What comes at an event, and then what the list goes on to give.
  handed : (all : List Event) → Accepted (refusal limit) all → (e : Event) (rest : List Event) → all ≡ es ++ (e ∷ rest)
      → hands m e ++ border_after all (es ++ (e ∷ [])) rest ≡ border_after all es (e ∷ rest)
  handed all ok (Vertex p n v) rest h = refl
  handed all ok (Triangle p a b c) rest h = refl
  handed all ok (Finalization p i) rest h =
      ap (λ (z : List Edge). z ++ border_after all before rest)
      (ap (λ (t : Edges). hands (record { window = m.window; edges = t }) (Finalization p i)) r.edges
      ∙ sym (rising_gives (uses es) (finalized es) i (KnownEnds (introduced es)) (ends_in_range limit es r.knows.accepted)
      (ends_known limit es r.knows.accepted) (gives_in all) known))
    where
      before : List Event
      before = es ++ (Finalization p i ∷ [])

      split : all ≡ before ++ rest
      split = h ∙ sym (append_assoc es (Finalization p i ∷ []) rest)

      behind : AcceptedAfter (refusal limit) before rest
      behind = (accepted_parts (refusal limit) before rest [] (subst (Accepted (refusal limit)) split ok)).1

      gone : has i (finalized before) ≡ true
      gone = ap (has i) (finalized_f es p i) ∙ has_right i (finalized es) (i ∷ []) (has_self i [])

      known : (e : Edge) → KnownEnds (introduced es) e → ends_at i e ≡ true → gives_in all e ≡ gives (filter (same_edge e) (uses es))
      known e k t =
          ap (λ (z : List Event). gives_in z e) split
          ∙ ap gives (same_uses limit before rest behind i e gone t ∙ ap (filter (same_edge e)) (uses_f es p i))

-- The run from any point on, where `all` is the whole accepted beginning.
module _ (limit most : ℕ) (s : Standing) (all : List Event) (ok : Accepted (refusal limit) all) where
  abbrev rules : Rules
  rules = border_rules limit most

  -- What is left to give after the list es, whose rest is xs.
  abbrev still : List Event → List Event → Outcome Edge
  still es xs = outcome (border_after all es (accepted_after rules es xs)) (stands_by Border (stop_after rules es xs) (es ++ xs) s)

  runs : (xs es : List Event) (m : Memory) → Remembers limit m es → all ≡ es ++ accepted_after rules es xs
      → run (bordering limit most) m xs s ≡ still es xs
  runs [] es m r h =
      ap (outcome []) (ending_is limit m.window es r.knows Border s ∙ ap (λ (z : List Event). stands_over Border z s) (sym (append-nil es)))
  runs (e ∷ xs) es m r h =
      ap step_by (judges limit most m es r e) ∙ at (rules es e) refl (runs xs (es ++ (e ∷ [])) (moves_on m e))
    where
      more : List Event
      more = es ++ (e ∷ [])

      rest : List Event
      rest = accepted_after rules more xs

      step_by : Option Cause → Outcome Edge
      step_by o = after (verdict Border e o (moves_on m e) (hands m e)) (λ n. run (bordering limit most) n xs s)

      at : (o : Option Cause) → rules es e ≡ o
          → (Remembers limit (moves_on m e) more → all ≡ more ++ rest → run (bordering limit most) (moves_on m e) xs s ≡ still more xs)
          → step_by o
          ≡ outcome (border_after all es (accept o e rest)) (stands_by Border (stop o e (stop_after rules more xs)) (es ++ (e ∷ xs)) s)
      at None t ih =
          let q : refusal limit es e ≡ None = none_of (refusal limit es e) (edge_refusal most es e) t in
          let whole : all ≡ es ++ (e ∷ rest) = h ∙ ap (λ (o : Option Cause). es ++ accept o e rest) t in
          ap (prepends (hands m e)) (ih (goes_on limit most m es r e q) (whole ∙ sym (append_assoc es (e ∷ []) rest)))
          ∙ (λ i. outcome (handed limit most m es r all ok e rest whole i)
          (stands_by Border (stop_after rules more xs) (append_assoc es (e ∷ []) xs i) s))
      at (Some c) t ih = refl

pub whole_mesh : WholeMesh
whole_mesh limit most o =
    let all : List Event = accepted (border_rules limit most) o.items in
    runs limit most o.stands all (rules_accepted limit most all [] (accepted_ok (border_rules limit most) o.items)) o.items [] blank
    (record { knows = knows_none limit; edges = nothing_open }) refl
  where
    nothing_open : blank.edges ≡ edges_after []
    nothing_open = refl
