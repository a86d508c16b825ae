-- How the border list stands over a pile: as the lowest layer alone would, or at fault itself for too many open edges.
use Rattle.std.proofs.Common.{◌≡◌, ℕ, Bool, true, false, leb, List, [], ◌∷◌, ◌++◌, length, Some, None, Option, ◌⊎◌, inl, inr, sym, refl, ap, ◌∙◌, subst}
use Rattle.std.specs.Option.{option_or}
use Rattle.mesh_stream.specs.declared.event.Event.{Event}
use Rattle.mesh_stream.specs.declared.event.Event.TheVariants.{Vertex, Triangle, Finalization}
use Rattle.mesh_stream.specs.declared.fault.Cause.{Cause}
use Rattle.mesh_stream.specs.declared.fault.Cause.TheVariants.{TooManyOpenEdges}
use Rattle.mesh_stream.specs.declared.fault.LayerName.TheVariants.{Border}
use Rattle.mesh_stream.specs.declared.stage.Standing.{Standing}
use Rattle.mesh_stream.specs.declared.stage.Standing.TheVariants.{Waiting, Ended, Faulty}
use Rattle.mesh_stream.specs.Live.{live}
use Rattle.mesh_stream.specs.Meaning.{Outcome}
use Rattle.mesh_judge.specs.Accepting.{unless, refusal, AcceptedAfter, Stop, stop, stop_after, fault, end_with, stands_over, stands_by}
use Rattle.mesh_rules.specs.Piling.{Rule, name_of, pile, lowest_stands}
use Rattle.mesh_rules.proofs.Piling.{pile_laws}
use Rattle.mesh_layer.proofs.Ending.{ended_leaves_none}
use Rattle.mesh_edges.specs.Bordering.{open_edges, edge_refusal, border_rules, bordered}

-- If anything is refused, or stops a list, it is for too many open edges.
abbrev OnlyEdges : Option Cause → Type 0
OnlyEdges None = Unit {0}
OnlyEdges (Some c) = c ≡ TooManyOpenEdges

abbrev StopsForEdges : Option Stop → Type 0
StopsForEdges None = Unit {0}
StopsForEdges (Some s) = s.cause ≡ TooManyOpenEdges

module _ (limit most : ℕ) where
  edges_only : (before : List Event) (e : Event) → OnlyEdges (edge_refusal most before e)
  edges_only before (Vertex p n v) = tt
  edges_only before (Triangle p a b c) = at (leb (length (open_edges (before ++ (Triangle p a b c ∷ [])))) most)
    where
      at : (few : Bool) → OnlyEdges (unless few TooManyOpenEdges None)
      at true = tt
      at false = refl
  edges_only before (Finalization p i) = tt

  rules_only : (before : List Event) (e : Event) → refusal limit before e ≡ None → OnlyEdges (border_rules limit most before e)
  rules_only before e h = subst (λ (o : Option Cause). OnlyEdges (option_or o (edge_refusal most before e))) (sym h) (edges_only before e)

  -- along a list that the acceptance rules accept
  stop_only : (es before : List Event) → AcceptedAfter (refusal limit) before es
      → StopsForEdges (stop_after (border_rules limit most) before es)
  stop_only [] before h = tt
  stop_only (e ∷ es) before (a, h) =
      at (border_rules limit most before e) (stop_after (border_rules limit most) (before ++ (e ∷ [])) es) (rules_only before e a)
      (stop_only es (before ++ (e ∷ [])) h)
    where
      at : (o : Option Cause) (later : Option Stop) → OnlyEdges o → StopsForEdges later → StopsForEdges (stop o e later)
      at None later q l = l
      at (Some c) later q l = q

-- The standing s is the one given, or the border list's own fault, for too many open edges.
abbrev pub AsGivenOrOwnFault : Standing → Standing → Type 0
AsGivenOrOwnFault s given = (s ≡ given) ⊎ ((p : ℕ) × (s ≡ fault Border TooManyOpenEdges p))

module _ (es : List Event) where
  -- an end below that leaves no vertex live stays an end
  ends_none_live : (below : Standing) → (below ≡ Ended → live es ≡ []) → stands_over Border es below ≡ below
  ends_none_live Waiting h = refl
  ends_none_live Ended h = ap (end_with Border es) (h refl)
  ends_none_live (Faulty f) h = refl

  by_stop : (s : Option Stop) → StopsForEdges s → (below : Standing) → (below ≡ Ended → live es ≡ [])
      → AsGivenOrOwnFault (stands_by Border s es below) below
  by_stop None q below h = inl (ends_none_live below h)
  by_stop (Some s) q below h = inr (s.place, ap (λ (c : Cause). fault Border c s.place) q)

-- A pile's list is accepted, it stands as its lowest layer, and it leaves no vertex live where it ends.
over_pile : (limit most : ℕ) (r : Rule) (rs : List Rule) (bottom : Outcome Event)
    → AsGivenOrOwnFault (bordered limit most (pile limit (r ∷ rs) bottom)).stands (lowest_stands limit (r ∷ rs) bottom)
over_pile limit most r rs bottom =
    let l = pile_laws limit r rs bottom in
    let o : Outcome Event = pile limit (r ∷ rs) bottom in
    let s : o.stands ≡ lowest_stands limit (r ∷ rs) bottom = ap (λ (z : Outcome Event). z.stands) l.whole_mesh in
    subst (AsGivenOrOwnFault (bordered limit most o).stands) s
    (by_stop o.items (stop_after (border_rules limit most) [] o.items) (stop_only limit most o.items [] l.stays_accepted) o.stands
    (λ e. l.none_live (ended_leaves_none (refusal limit) (name_of r) bottom (sym s ∙ e))))

pub border_stands : (limit most : ℕ) (lower : List Rule) (top : Rule) (bottom : Outcome Event)
    → AsGivenOrOwnFault (bordered limit most (pile limit (lower ++ (top ∷ [])) bottom)).stands
    (lowest_stands limit (lower ++ (top ∷ [])) bottom)
border_stands limit most [] top bottom = over_pile limit most top [] bottom
border_stands limit most (r ∷ rs) top bottom = over_pile limit most r (rs ++ (top ∷ [])) bottom
