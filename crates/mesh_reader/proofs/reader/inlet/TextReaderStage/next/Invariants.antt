use Rattle.std.proofs.Common.{◌≡◌, length}
use Rattle.mesh_stream.specs.Meaning.{Same}
use Rattle.mesh_stream.specs.Calls.{SameKind}
use Rattle.mesh_reader.specs.Readers.{kept, leaves, reader_means, reader_port}
use Rattle.mesh_reader.proofs.reader.inlet.TextReaderStage.next.Given as goal

abbrev pub invariant-loop-event : goal.invariant-loop-event
invariant-loop-event l =
    Same (reader_means l.initial.self) (reader_means l.self) × SameKind (reader_port l.initial.self) (reader_port l.self) × (leaves l.self ≡ leaves l.initial.self)

abbrev pub decreases-loop-event : goal.decreases-loop-event
decreases-loop-event l = length (kept l.self)
