-- The event of a part of a position, and the events that are left of a grid.
use Rattle.std.specs.Prelude.{◌≡◌, ℕ, ◌<◌, true, List, [], Some, None, Option}
use Rattle.mesh_stream.specs.declared.event.Event.{Event}
use Rattle.mesh_stream.specs.Events.{placed}
use Rattle.mesh_bottoms.specs.declared.grid.Grid.{Grid}
use Rattle.mesh_bottoms.specs.declared.grid.part.Part.{Part}
use Rattle.mesh_bottoms.specs.declared.grid.position.Position.{Position}
use Rattle.mesh_bottoms.specs.Placing.{in_places}
use Rattle.mesh_bottoms.specs.Gridding.{grid_allowed}
use Rattle.mesh_bottoms.specs.Walking.{part_event, left_from}

abbrev pub event_of : Position → Part → ℕ → Event
event_of p part place = placed place (part_event p part)

-- the event of a part and all that come behind it
abbrev pub left_at : Position → Option Part → ℕ → List Event
left_at p (Some part) place = in_places place (left_from p part)
left_at p None place = []

abbrev pub events_from : Grid → List Event
events_from g = left_at g.position g.part g.place

-- Its settings are allowed, and its position is one of theirs.
pub record OfEveryGrid (g : Grid) : Type 0 where
  pub allowed : grid_allowed g.position.columns g.position.rows g.position.step ≡ true
  pub row_within : g.position.row < g.position.rows
  pub column_within : g.position.column < g.position.columns
