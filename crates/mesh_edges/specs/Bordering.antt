-- The border list of a list of events, by the whole list, with no window.
use Rattle.std.specs.Prelude.{ℕ, Bool, not, cond, ◌&&◌, ◌||◌, List, [], ◌∷◌, ◌++◌, length, filter, flat_map, None, Option, ◌==◌, nat_le}
use Rattle.std.specs.Option.{option_or}
use Rattle.mesh_stream.specs.declared.event.Event.{Event}
use Rattle.mesh_stream.specs.declared.event.Event.TheVariants.{Vertex, Triangle, Finalization}
use Rattle.mesh_stream.specs.declared.fault.Cause.{Cause}
use Rattle.mesh_stream.specs.declared.fault.Cause.TheVariants.{TooManyOpenEdges}
use Rattle.mesh_stream.specs.declared.fault.LayerName.TheVariants.{Border}
use Rattle.mesh_stream.specs.Lists.{has}
use Rattle.mesh_stream.specs.Events.{finalized}
use Rattle.mesh_stream.specs.Meaning.{Outcome, outcome}
use Rattle.mesh_judge.specs.Accepting.{unless, refusal, Rules, judged}
use Rattle.mesh_edges.specs.declared.edge.Edge.{Edge}

abbrev pub edge : ℕ → ℕ → ℕ → Edge
edge p a b = record { from = a; to = b; place = p }

abbrev pub all_different : ℕ → ℕ → ℕ → Bool
all_different a b c = not (a == b || b == c || c == a)

-- A triangle with three different corners uses the edges a to b, b to c and c to a; any other uses none.
abbrev pub uses_of : ℕ → ℕ → ℕ → ℕ → List Edge
uses_of p a b c = cond (all_different a b c) (edge p a b ∷ edge p b c ∷ edge p c a ∷ []) []

abbrev pub uses : List Event → List Edge
uses [] = []
uses (Vertex p n at ∷ es) = uses es
uses (Triangle p a b c ∷ es) = uses_of p a b c ++ uses es
uses (Finalization p i ∷ es) = uses es

-- An edge is an unordered pair: two uses are of one edge if they have the same ends.
abbrev pub same_edge : Edge → Edge → Bool
same_edge e f = e.from == f.from && e.to == f.to || e.from == f.to && e.to == f.from

-- the first use of each edge
abbrev pub first_uses : List Edge → List Edge
first_uses [] = []
first_uses (e ∷ es) = e ∷ filter (λ f. not (same_edge e f)) (first_uses es)

-- An edge is open from its first use until one end is finalized: those open after a list, each by its first use.
abbrev pub is_open : List ℕ → Edge → Bool
is_open gone e = not (has e.from gone) && not (has e.to gone)

abbrev pub open_edges : List Event → List Edge
open_edges es = filter (is_open (finalized es)) (first_uses (uses es))

-- What an edge gives, by all its uses: if just one triangle uses it, it is single, and gives this use.
abbrev pub gives : List Edge → List Edge
gives [] = []
gives (e ∷ []) = e ∷ []
gives (e ∷ f ∷ fs) = []

abbrev pub gives_in : List Event → Edge → List Edge
gives_in all e = gives (filter (same_edge e) (uses all))

-- The edges at vertex i, and their other ends.
abbrev pub ends_at : ℕ → Edge → Bool
ends_at i e = e.from == i || e.to == i

abbrev pub other_end : ℕ → Edge → ℕ
other_end i e = cond (e.from == i) e.to e.from

-- By rising number of the other end.
abbrev pub insert : ℕ → Edge → List Edge → List Edge
insert i e [] = e ∷ []
insert i e (f ∷ fs) = cond (nat_le (other_end i e) (other_end i f)) (e ∷ f ∷ fs) (f ∷ insert i e fs)

abbrev pub rising : ℕ → List Edge → List Edge
rising i [] = []
rising i (e ∷ es) = insert i e (rising i es)

-- At a finalization of i come the single ones of the edges at i that are open before it. `all` is the whole list, `before` its part
-- before the finalization.
abbrev pub border_at : List Event → List Event → ℕ → List Edge
border_at all before i = flat_map (gives_in all) (rising i (filter (ends_at i) (open_edges before)))

abbrev pub border_after : List Event → List Event → List Event → List Edge
border_after all before [] = []
border_after all before (Vertex p n at ∷ es) = border_after all (before ++ (Vertex p n at ∷ [])) es
border_after all before (Triangle p a b c ∷ es) = border_after all (before ++ (Triangle p a b c ∷ [])) es
border_after all before (Finalization p i ∷ es) = border_at all before i ++ border_after all (before ++ (Finalization p i ∷ [])) es

abbrev pub border_edges : List Event → List Edge
border_edges es = border_after es [] es

-- A triangle that would leave more than `most` edges open is not accepted.
abbrev pub edge_refusal : ℕ → List Event → Event → Option Cause
edge_refusal most before (Vertex p n at) = None
edge_refusal most before (Triangle p a b c) =
    unless (nat_le (length (open_edges (before ++ (Triangle p a b c ∷ [])))) most) TooManyOpenEdges None
edge_refusal most before (Finalization p i) = None

-- This is checked after the acceptance rules. `limit` is the largest number of live vertices.
abbrev pub border_rules : ℕ → ℕ → Rules
border_rules limit most before e = option_or (refusal limit before e) (edge_refusal most before e)

-- The border list of what is below: it judges like a layer, and hands over the border edges of the accepted beginning.
abbrev pub bordered : ℕ → ℕ → Outcome Event → Outcome Edge
bordered limit most below =
    let o : Outcome Event = judged Border (border_rules limit most) below in outcome (border_edges o.items) o.stands
