use Rattle.std.proofs.Common.{[], length}
use Rattle.std.specs.Io.Buffered.{writer_contents}
use Rattle.mesh_stream.specs.Meaning.{unclosed}
use Rattle.mesh_stream.specs.Calls.{SameKind}
use Rattle.mesh_listing.specs.Lines.{IfShown}
use Rattle.mesh_listing.specs.Steps.{Printed, SameStanding}
use Rattle.mesh_listing.proofs.print.print_items.Given as goal

abbrev pub invariant-loop-item : goal.invariant-loop-item
invariant-loop-item g l = record {
  so_far : IfShown g.I.Display.output (λ shown. Printed shown (g.S.Stage.meaning l.initial.stage)
      (writer_contents g.W.Write.contents l.initial.out) (g.S.Stage.meaning l.stage) (writer_contents g.W.Write.contents l.out));
  port_kept : SameKind (g.S.Stage.port l.initial.stage) (g.S.Stage.port l.stage);
  standing_kept : SameStanding (g.S.Stage.meaning l.initial.stage) (g.S.Stage.meaning l.stage);
}

abbrev pub decreases-loop-item : goal.decreases-loop-item
decreases-loop-item g l = length (g.S.Stage.meaning l.stage [] unclosed).items
