-- What a layer means, and that a filter over a lawful stage is a lawful stage.
use Rattle.std.specs.Prelude.{◌≡◌, ℕ, List, Some, None, Option}
use Rattle.mesh_stream.specs.declared.stage.Stage.{Ghosts as StageGhosts}
use Rattle.mesh_stream.specs.Meaning.{Mark, Outcome, prepend}
use Rattle.mesh_stream.specs.Runs.{View, viewed}
use Rattle.mesh_layer.specs.declared.filter.Filter.{Ghosts as FilterGhosts}
use Rattle.mesh_layer.specs.declared.layer.Layer.{Layer}
use Rattle.mesh_layer.specs.LayeringLaw.{unless_faulty, layered_lawful, unless_faulty_filters}

-- How a stage is seen.
abbrev pub seen : {S I : Type 0} → StageGhosts S I → S → View I
seen stage s = viewed (stage.port s) (stage.meaning s) (stage.lawful s)

abbrev pub stage_below : {S F I O R : Type 0} → Layer S F I O R → S
stage_below l = l.below

-- What a layer makes of what is still to come from below.
abbrev pub makes : {S F I O R : Type 0} → FilterGhosts F I O R → Layer S F I O R → Outcome I → Outcome O
makes filter l = unless_faulty l.fault (filter.rewrites l.filter l.rest)

-- How a layer is seen: it takes text as the stage below does, and makes what it does of what that gives.
abbrev pub seen_through : {S F I O R : Type 0} → StageGhosts S I → FilterGhosts F I O R → Layer S F I O R → View O
seen_through stage filter l = viewed (stage.port l.below)
    (λ t m. makes filter l (stage.meaning l.below t m))
    (layered_lawful (unless_faulty_filters l.fault (filter.filters l.filter l.rest)) (stage.lawful l.below))

-- The filter of a layer that had handed over all took an item, and this is the first of what is to be handed over for it, if anything is.
abbrev pub Took : {S F I O R : Type 0} → FilterGhosts F I O R → Layer S F I O R → I → Option O → Layer S F I O R → Type 0
Took filter old i (Some x) new = (o : Outcome _) → filter.rewrites old.filter filter.empty (prepend i o) ≡ prepend x (makes filter new o)
Took filter old i None new = (o : Outcome _) → filter.rewrites old.filter filter.empty (prepend i o) ≡ makes filter new o

-- What is seen as w takes text as v does, and makes F of all that v gives.
pub record Made {I O : Type 0} (F : Outcome I → Outcome O) (v : View I) (w : View O) : Type 0 where
  pub port_same : w.port ≡ v.port
  pub means : (t : List ℕ) (m : Mark) → w.means t m ≡ F (v.means t m)
