use Rattle.mesh_listing.proofs.Printing.{printed_then, printed_one}
use Rattle.grid_text.specs.GridText.{text_of}
use Rattle.grid_text.proofs.write_all.Goals as goal

pub loop-event-preserved : goal.loop-event-preserved
loop-event-preserved g c = printed_then text_of _ _ _ _ _ _ c.loop-event.invariant
    (printed_one text_of _ _ _ _ c.in-Ok.event c.in-Ok.ensures.first c.in_ok-writeln.ensures.bytes)
