-- What holds of the layers' rewritings, as lists: apart from any code.
use Rattle.std.specs.Prelude.{◌≡◌, ℕ, suc, ◌≤◌, List, [], ◌∷◌, ◌++◌}
use Rattle.std.specs.List.{AllByRecursion}
use Rattle.mesh_stream.specs.declared.event.Event.{Event}
use Rattle.mesh_stream.specs.declared.event.Event.TheVariants.{Vertex, Triangle, Finalization}
use Rattle.mesh_stream.specs.Events.{introduced, point}
use Rattle.mesh_stream.specs.Live.{live, width}
use Rattle.mesh_stream.specs.Meaning.{Outcome, outcome, Begins}
use Rattle.mesh_judge.specs.Accepting.{refusal, accepted, Accepted, judged}
use Rattle.mesh_rules.specs.Rewriting.{renumbered, compacted}
use Rattle.mesh_rules.specs.Piling.{Rule, name_of, rewritten, rewritten_by_all, pile}

-- A vertex event's own coordinates are those looked up for its number.
abbrev pub Own : List Event → Event → Type 0
Own all (Vertex p n v) = point all n ≡ v
Own all (Triangle p a b c) = Unit {0}
Own all (Finalization p i) = Unit {0}

-- k, k + 1, and so on.
abbrev pub Counting : ℕ → List ℕ → Type 0
Counting k [] = Unit {0}
Counting k (n ∷ ns) = (n ≡ k) × Counting (suc k) ns

-- Looking up in an accepted list says what it should.
pub record Faithful (es : List Event) : Type 0 where
  pub points : AllByRecursion (Own es) es
  -- The new numbers are 1, 2, 3 and so on.
  pub renumbered_count : Counting 1 (introduced (renumbered es))
  pub compacted_count : Counting 1 (introduced (compacted es))

pub record RewritingLaws (limit : ℕ) (r : Rule) (es : List Event) : Type 0 where
  -- What is made of an accepted list is accepted,
  pub stays_accepted : Accepted (refusal limit) (rewritten r es)
  -- is no wider,
  pub no_wider : width (rewritten r es) ≤ width es
  -- and leaves no vertex live where the list leaves none.
  pub none_live : live es ≡ [] → live (rewritten r es) ≡ []
  -- What is made of a beginning of the list begins what is made of the list.
  pub begins : (xs ys : List Event) → es ≡ xs ++ ys → Begins (rewritten r xs) (rewritten r es)

pub record PileLaws (limit : ℕ) (r : Rule) (rs : List Rule) (bottom : Outcome Event) : Type 0 where
  -- A pile gives the accepted beginning of what is below, rewritten by all its layers, and stands as its lowest layer alone would:
  -- so no layer above the lowest names a fault.
  pub whole_mesh : pile limit (r ∷ rs) bottom
      ≡ outcome (rewritten_by_all (r ∷ rs) (accepted (refusal limit) bottom.items)) (judged (name_of r) (refusal limit) bottom).stands
  pub stays_accepted : Accepted (refusal limit) (pile limit (r ∷ rs) bottom).items
  pub no_wider : width (pile limit (r ∷ rs) bottom).items ≤ width (accepted (refusal limit) bottom.items)
  pub none_live : live (accepted (refusal limit) bottom.items) ≡ [] → live (pile limit (r ∷ rs) bottom).items ≡ []

pub record Laws : Type 0 where
  pub of_looking_up : (limit : ℕ) (es : List Event) → Accepted (refusal limit) es → Faithful es
  pub of_rewritings : (limit : ℕ) (r : Rule) (es : List Event) → Accepted (refusal limit) es → RewritingLaws limit r es
  pub of_piles : (limit : ℕ) (r : Rule) (rs : List Rule) (bottom : Outcome Event) → PileLaws limit r rs bottom
