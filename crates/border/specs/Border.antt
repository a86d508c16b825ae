-- The border list of a text.
use Rattle.std.specs.Prelude.{ℕ, List, [], ◌∷◌}
use Rattle.mesh_stream.specs.Meaning.{closed, Outcome}
use Rattle.mesh_edges.specs.declared.edge.Edge.{Edge}
use Rattle.mesh_reader.specs.Reading.{reading}
use Rattle.mesh_rules.specs.Piling.{checks}
use Rattle.mesh_border.specs.BorderLaw.{border_of}

-- The border list of a whole text, over what check makes of its events: at most 1,024 live vertices and 4,096 open edges.
abbrev pub text_border : List ℕ → Outcome Edge
text_border t = border_of 1024 4096 (checks ∷ []) (reading t closed)
