use Rattle.std.proofs.Common.{rules}
use Rattle.mesh_listing.proofs.Printing.{line_shown, printed_then, printed_one}
use Rattle.mesh_listing.proofs.Turns.{same_kind_trans}
use Rattle.mesh_listing.proofs.Reach.{standing_more, standing_still}
use Rattle.mesh_listing.proofs.print.print_items.Goals as goal

pub loop-item-preserved : goal.loop-item-preserved
loop-item-preserved g c = record {
  so_far = λ shown shows. printed_then shown _ _ _ _ _ _ (c.loop-item.invariant.so_far shown shows)
      (printed_one shown _ _ _ _ c.in-Ok.item c.in-Ok.ensures.first
      (line_shown _ _ _ _ (shows c.in-Ok.item) c.in_ok-writeln-in-Ok.ensures.bytes));
  port_kept = same_kind_trans _ _ _ c.loop-item.invariant.port_kept c.in-Ok.ensures.port_kept;
  standing_kept = standing_more _ _ _ _ c.loop-item.invariant.standing_kept c.in-Ok.ensures.first;
}

pub returns-in-Err-clause-printed : goal.returns-in-Err-clause-printed
returns-in-Err-clause-printed g c = λ shown shows. let so_far = c.loop-item.invariant.so_far shown shows in search rules

pub returns-in-Err-clause-standing_kept : goal.returns-in-Err-clause-standing_kept
returns-in-Err-clause-standing_kept g c = standing_still _ _ _ c.loop-item.invariant.standing_kept c.in-Err.ensures.same
