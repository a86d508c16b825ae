-- Live vertices and the width of a list of events.
use Rattle.std.specs.Prelude.{ℕ, max, Bool, not, List, [], ◌∷◌, ◌++◌, length, filter}
use Rattle.mesh_stream.specs.declared.event.Event.{Event}
use Rattle.mesh_stream.specs.Lists.{has}
use Rattle.mesh_stream.specs.Events.{introduced, finalized}

-- A vertex is live from its introduction until its finalization.
abbrev pub live : List Event → List ℕ
live es = filter (λ n. not (has n (finalized es))) (introduced es)

abbrev pub is_live : List Event → ℕ → Bool
is_live es n = has n (live es)

-- The width of a list: the largest number of vertices live after any of its events, 0 for an empty list.
abbrev pub width_after : List Event → List Event → ℕ
width_after before [] = 0
width_after before (e ∷ es) = max (length (live (before ++ (e ∷ [])))) (width_after (before ++ (e ∷ [])) es)

abbrev pub width : List Event → ℕ
width es = width_after [] es
