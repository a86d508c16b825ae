use Rattle.std.proofs.Common.{[], subst}
use Rattle.mesh_stream.specs.declared.event.Event.{Event}
use Rattle.mesh_stream.specs.Meaning.{unclosed, Outcome}
use Rattle.std.specs.Io.Buffered.{writer_contents}
use Rattle.std.specs.Io.KnownBytes.{Appends}
use Rattle.mesh_listing.specs.Lines.{lines}
use Rattle.grid_text.specs.GridText.{text_of}
use Rattle.grid_text.proofs.write_grid.Goals as goal

pub returns-clause-written : goal.returns-clause-written
returns-clause-written g c = record {
  allowed = c.in_ok-grid.ensures.allowed;
  bytes = subst (λ (o : Outcome Event). Appends (writer_contents g.W.Write.contents c.args.out.now)
      (writer_contents g.W.Write.contents c.write_all.new.out) (lines text_of o.items)) (c.in_ok-grid.ensures.means [] unclosed) c.in_ok-write_all.ensures.written;
}
