-- Layers, and piles of them: what a pile makes of what its bottom gives.
use Rattle.std.specs.Prelude.{ℕ, Bool, List, [], ◌∷◌}
use Rattle.mesh_stream.specs.declared.event.Point.{Point}
use Rattle.mesh_stream.specs.declared.event.Event.{Event}
use Rattle.mesh_stream.specs.declared.fault.LayerName.{LayerName}
use Rattle.mesh_stream.specs.declared.fault.LayerName.TheVariants.{Check, Clean, Clip, Compact, Renumber}
use Rattle.mesh_stream.specs.declared.stage.Standing.{Standing}
use Rattle.mesh_stream.specs.Meaning.{Outcome, outcome}
use Rattle.mesh_judge.specs.Accepting.{refusal, judged}
use Rattle.mesh_rules.specs.Rewriting.{cleaned, clipped, renumbered, compacted}

-- A layer, with its setting: what a clip keeps is a set of points.
pub data Rule : Type 0 where
  checks : Rule
  cleans : Rule
  clips : (Point → Bool) → Rule
  compacts : Rule
  renumbers : Rule

abbrev pub name_of : Rule → LayerName
name_of checks = Check
name_of cleans = Clean
name_of (clips inside) = Clip
name_of compacts = Compact
name_of renumbers = Renumber

-- What a layer makes of a list of accepted events.
abbrev pub rewritten : Rule → List Event → List Event
rewritten checks es = es
rewritten cleans es = cleaned es
rewritten (clips inside) es = clipped inside es
rewritten compacts es = compacted es
rewritten renumbers es = renumbered es

abbrev pub rewrite : Rule → Outcome Event → Outcome Event
rewrite r o = outcome (rewritten r o.items) o.stands

-- A layer judges what is below by the acceptance rules, rewrites the accepted beginning, and stands as judging says.
-- `limit` is the largest number of live vertices.
abbrev pub through : ℕ → Rule → Outcome Event → Outcome Event
through limit r below = rewrite r (judged (name_of r) (refusal limit) below)

-- A pile of layers, from the lowest up, over what a bottom gives.
abbrev pub pile : ℕ → List Rule → Outcome Event → Outcome Event
pile limit [] bottom = bottom
pile limit (r ∷ rs) bottom = pile limit rs (through limit r bottom)

-- What they make of a list of accepted events, one after the other.
abbrev pub rewritten_by_all : List Rule → List Event → List Event
rewritten_by_all [] es = es
rewritten_by_all (r ∷ rs) es = rewritten_by_all rs (rewritten r es)

-- How the lowest layer alone would stand on the bottom.
abbrev pub lowest_stands : ℕ → List Rule → Outcome Event → Standing
lowest_stands limit [] bottom = bottom.stands
lowest_stands limit (r ∷ rs) bottom = (through limit r bottom).stands
