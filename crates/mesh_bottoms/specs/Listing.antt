-- The list stage: the records in order, at most 1,000,000,000 of them, and then the end.
use Rattle.std.specs.Prelude.{ℕ, ◌+◌, List, take}
use Rattle.mesh_stream.specs.declared.event.Event.{Event}
use Rattle.mesh_stream.specs.declared.stage.Standing.TheVariants.{Ended}
use Rattle.mesh_stream.specs.Meaning.{Outcome, outcome}
use Rattle.mesh_bottoms.specs.Placing.{in_places}

abbrev pub listed : List Event → Outcome Event
listed records = outcome (in_places 1 (take 1000000000 records)) Ended

-- What these records give once so many others are handed over.
abbrev pub listed_on : ℕ → List Event → Outcome Event
listed_on given records = outcome (in_places (given + 1) records) Ended
