-- Places by position.
use Rattle.std.specs.Prelude.{ℕ, suc, List, [], ◌∷◌}
use Rattle.mesh_stream.specs.declared.event.Event.{Event}
use Rattle.mesh_stream.specs.Events.{placed}

-- Each event with its position as its place, whatever place it held; the first one's is given.
abbrev pub in_places : ℕ → List Event → List Event
in_places place [] = []
in_places place (e ∷ es) = placed place e ∷ in_places (suc place) es
