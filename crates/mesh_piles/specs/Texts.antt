-- What a report on a mesh text says.
use Rattle.std.specs.Prelude.{ℕ, List, [], ◌∷◌}
use Rattle.mesh_stream.specs.declared.event.Event.{Event}
use Rattle.mesh_stream.specs.Meaning.{closed, Outcome}
use Rattle.mesh_reader.specs.Reading.{reading}
use Rattle.mesh_report.specs.Reporting.{reported}
use Rattle.mesh_rules.specs.Piling.{Rule, checks, cleans, compacts, pile}

-- the layers over the reader, from the lowest up
abbrev pub text_layers : List Rule
text_layers = checks ∷ cleans ∷ compacts ∷ []

-- What the report on a whole text counts, and how it stands: by the events of the text, what the layers make of their list, and the
-- report's own judging.
abbrev pub text_outcome : List ℕ → Outcome Event
text_outcome t = reported (pile 1024 text_layers (reading t closed))
