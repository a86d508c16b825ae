use Rattle.std.proofs.Common.{◌≡◌, length}
use Rattle.std.specs.Io.Buffered.{writer_contents}
use Rattle.mesh_listing.specs.Lines.{IfShown}
use Rattle.mesh_listing.proofs.Printing.{PrintedOf}
use Rattle.mesh_listing.proofs.Turns.{TurnsOf}
use Rattle.mesh_listing.proofs.Reach.{Reached}
use Rattle.mesh_listing.proofs.list.list_until_end.Given as goal

abbrev pub invariant-loop : goal.invariant-loop
invariant-loop g l = record {
  piece : length l.piece ≡ 4096;
  so_far : IfShown g.I.Display.output (λ shown. PrintedOf shown (g.R.Read.remaining l.fn.input) (g.R.Read.remaining l.input)
      (g.S.Stage.meaning l.fn.stage) (g.S.Stage.meaning l.stage)
      (writer_contents g.W.Write.contents l.fn.out) (writer_contents g.W.Write.contents l.out));
  turns : TurnsOf (g.R.Read.remaining l.fn.input) (g.R.Read.remaining l.input) (g.S.Stage.port l.stage) l.counter;
  reached : Reached (g.R.Read.remaining l.fn.input) (g.R.Read.remaining l.input) (g.S.Stage.meaning l.fn.stage) (g.S.Stage.meaning l.stage);
}
