-- From what the filter does with an event to the machine.
use Rattle.std.proofs.Common.{◌≡◌, ℕ, ◌<◌, Bool, [], Some, None, Option, Ok, Err, Result, sym, ap, ◌∙◌, subst}
use Rattle.std.proofs.lemmas.Bool.{ltb-true}
use Rattle.std.specs.Option.{option_or}
use Rattle.std.specs.Result.{IsErrAnd}
use Rattle.mesh_stream.specs.declared.event.Point.{Point}
use Rattle.mesh_stream.specs.declared.event.Event.{Event}
use Rattle.mesh_stream.specs.declared.event.Event.TheVariants.{Vertex, Triangle}
use Rattle.mesh_stream.specs.declared.fault.Cause.{Cause}
use Rattle.mesh_stream.specs.declared.fault.Cause.TheVariants.{TooManyOpenEdges}
use Rattle.mesh_stream.specs.declared.fault.LayerName.TheVariants.{Border as Bordering}
use Rattle.mesh_stream.specs.declared.stage.Standing.{Standing}
use Rattle.mesh_stream.specs.Meaning.{Outcome, outcome, prepend}
use Rattle.mesh_judge.specs.Accepting.{unless}
use Rattle.mesh_judge.specs.declared.judge.Judge.{Judge}
use Rattle.mesh_judge.specs.Windows.{Window, refuses}
use Rattle.mesh_judge.specs.Judging.{window_of, live_limit, Begun, Stands}
use Rattle.mesh_judge.proofs.Refusing.{unless_none}
use Rattle.mesh_layer.specs.Faults.{or_fault}
use Rattle.mesh_layer.specs.Filtering.{Takes, StandsSo}
use Rattle.mesh_layer.specs.Machine.{Machine, run, after, runs_on}
use Rattle.mesh_layer.specs.JudgingMachine.{verdict}
use Rattle.mesh_edges.specs.declared.edge.Edge.{Edge}
use Rattle.mesh_edges.specs.Bordering.{bordered}
use Rattle.mesh_edge_windows.specs.Edges.{no_edges}
use Rattle.mesh_edge_windows.specs.Windowing.{Memory, edges_refuse, memory_refuses, moves_on, hands, bordering}
use Rattle.mesh_edge_windows.proofs.Bordering.{whole_mesh}
use Rattle.mesh_border.specs.declared.border.Border.{Border}
use Rattle.mesh_border.specs.declared.border.Rest.{Rest}
use Rattle.mesh_border.specs.declared.border.Rest.TheVariants.{Nothing, Found}
use Rattle.mesh_border.specs.declared.open_edges.OpenEdges.{OpenEdges}
use Rattle.mesh_border.specs.OpenEdges.{edges_of, most_of, fits}
use Rattle.mesh_border.specs.Keeping.{plain}
use Rattle.mesh_border.specs.Making.{memory_of, makes, Refuses, Worked}
use Rattle.mesh_border.proofs.Plain.{plain_refuses, plain_ending}

-- What an accepted vertex says of the window.
pub vertex_fits : {T : Type 0} (limit : ℕ) (w : Window T) (p n : ℕ) (v : Point) → refuses limit w (Vertex p n v) ≡ None
    → (w.highest < n) × (w.live_count < limit)
vertex_fits limit w p n v h =
    let u = unless_none _ _ _ (unless_none _ _ _ h).1 in
    (ltb-true w.highest n u.0, ltb-true w.live_count limit (unless_none _ _ _ u.1).0)

-- The judge comes first: what it refuses is refused for its cause, and what it accepts is judged by the open edges.
module _ (b : Border) (e : Event) where
  abbrev refused_for : Option Cause → Type 0
  refused_for o = memory_refuses (live_limit b.judge) (most_of b.edges) (memory_of b) e ≡ o

  judge_says : (o : Option Cause) → refuses (live_limit b.judge) (window_of b.judge) e ≡ o
      → refused_for (option_or o (edges_refuse (most_of b.edges) (edges_of b.edges) e))
  judge_says o h =
      ap (λ (q : Option Cause). option_or q (edges_refuse (most_of b.edges) (edges_of b.edges) e))
      (plain_refuses (window_of b.judge) (live_limit b.judge) e ∙ h)

  judge_refuses : (c : Cause) → refuses (live_limit b.judge) (window_of b.judge) e ≡ Some c → refused_for (Some c)
  judge_refuses c h = judge_says (Some c) h

  pub judge_passes : refuses (live_limit b.judge) (window_of b.judge) e ≡ None
      → refused_for (edges_refuse (most_of b.edges) (edges_of b.edges) e)
  judge_passes h = judge_says None h

-- A triangle, by whether there is room for its edges.
pub edges_say : (b : Border) (p x y z : ℕ) (room : Bool) → room ≡ fits b.edges p x y z
    → edges_refuse (most_of b.edges) (edges_of b.edges) (Triangle p x y z) ≡ unless room TooManyOpenEdges None
edges_say b p x y z room h = ap (λ (f : Bool). unless f TooManyOpenEdges None) (sym h)

module _ (old new : Border) (e : Event) where
  pub judge_refused : (c : Cause) → refuses (live_limit old.judge) (window_of old.judge) e ≡ Some c
      → live_limit new.judge ≡ live_limit old.judge → window_of new.judge ≡ window_of old.judge
      → new.edges ≡ old.edges → new.found ≡ old.found → Refuses old e c new
  judge_refused c refused limit window edges found = record {
    refused = judge_refuses old e c refused;
    limits = record { live = limit; edges = ap most_of edges };
    memory = λ i. record { window = plain (window i); edges = edges_of (edges i) };
    found = found;
  }

  pub not_worked : (c : Cause) (r : Result Rest Cause) → IsErrAnd r (λ q. q ≡ c) → Refuses old e c new → Worked old e r new
  not_worked c (Ok rest) h f = absurd h
  not_worked c (Err q) h f = subst (λ (z : Cause). Refuses old e z new) (sym h) f

-- From the filter's answer to the machine.
module _ (old : Border) where
  abbrev machine : Machine Memory Event Edge
  machine = bordering (live_limit old.judge) (most_of old.edges)

  abbrev goes_by : Event → Option Cause → Outcome Event → Outcome Edge
  goes_by e v o =
      after (verdict Bordering e v (moves_on (memory_of old) e) (hands (memory_of old) e)) (λ m. run machine m o.items o.stands)

  by_verdict : (e : Event) (v : Option Cause) → refused_for old e v → (o : Outcome Event)
      → makes old Nothing (prepend e o) ≡ goes_by e v o
  by_verdict e v h o = ap (λ (u : Option Cause). goes_by e u o) h

  pub takes : (e : Event) (new : Border) (r : Result Rest Cause) → Worked old e r new
      → Takes Nothing (makes old) e (or_fault r Bordering e) (makes new)
  takes e new (Ok rest) h =
      λ o. by_verdict e None h.accepted o
      ∙ (λ i. runs_on (bordering (sym h.limits.live i) (sym h.limits.edges i)) (sym h.handed i) (sym h.memory i) o)
  takes e new (Err c) h = (λ o. by_verdict e (Some c) h.refused o, as_before)
    where
      as_before : (rest : Rest) (o : Outcome Event) → makes new rest o ≡ makes old rest o
      as_before Nothing o = λ i. runs_on (bordering (h.limits.live i) (h.limits.edges i)) [] (h.memory i) o
      as_before Found o = λ i. runs_on (bordering (h.limits.live i) (h.limits.edges i)) (h.found i) (h.memory i) o

  pub stands_so : (below s : Standing) → Stands old.judge Bordering below s → StandsSo Nothing (makes old) below s
  stands_so below s h = ap (outcome []) (plain_ending (window_of old.judge) Bordering below ∙ sym h.by_window)

-- A filter before the first event gives the border list of all that comes.
pub begins : (j : Judge ℕ) (edges : OpenEdges) → Begun 1024 j → edges_of edges ≡ no_edges → most_of edges ≡ 4096 → (o : Outcome Event)
    → run (bordering (live_limit j) (most_of edges)) (record { window = plain (window_of j); edges = edges_of edges }) o.items o.stands
    ≡ bordered 1024 4096 o
begins j edges judge none most o =
    (λ i. run (bordering (judge.limit i) (most i)) (record { window = plain (judge.window i); edges = none i }) o.items o.stands)
    ∙ whole_mesh 1024 4096 o
