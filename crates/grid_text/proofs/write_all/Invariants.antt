use Rattle.std.proofs.Common.{[], length}
use Rattle.std.specs.Io.Buffered.{writer_contents}
use Rattle.mesh_stream.specs.Meaning.{unclosed}
use Rattle.mesh_listing.specs.Steps.{Printed}
use Rattle.grid_text.specs.GridText.{text_of}
use Rattle.grid_text.proofs.write_all.Given as goal

abbrev pub invariant-loop-event : goal.invariant-loop-event
invariant-loop-event g l = Printed text_of (g.S.Stage.meaning l.initial.stage) (writer_contents g.W.Write.contents l.initial.out)
    (g.S.Stage.meaning l.stage) (writer_contents g.W.Write.contents l.out)

abbrev pub decreases-loop-event : goal.decreases-loop-event
decreases-loop-event g l = length (g.S.Stage.meaning l.stage [] unclosed).items
