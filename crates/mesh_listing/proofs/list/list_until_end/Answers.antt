use Rattle.std.proofs.Common.{[], ap, ◌∙◌, arith}
use Rattle.mesh_stream.specs.Meaning.{outcome}
use Rattle.mesh_listing.proofs.Printing.{print_more, pass_more, all_printed}
use Rattle.mesh_listing.proofs.Turns.{turn_more}
use Rattle.mesh_listing.proofs.Reach.{reach_printed, reach_more, read_to}
use Rattle.mesh_listing.proofs.list.list_until_end.Goals as goal

pub loop-preserved : goal.loop-preserved
loop-preserved g c = record {
  piece = omega arith;
  so_far = λ shown shows. pass_more shown _ _ _ _ _ _ _ _ _
      (print_more shown _ _ _ _ _ _ _ _ (c.loop.invariant.so_far shown shows) (c.in_ok-standing.ensures.printed shown shows))
      c.in_ok-pass_text-in-Waiting.ensures.passed;
  turns = turn_more _ _ _ _ _ _ _ _ _ _ c.loop.invariant.turns c.in_ok-standing.ensures.port_kept (g.S.Stage.lawful c.print_items.new.stage)
      c.in_ok-standing.ensures.none_left c.in-Waiting.is c.in_ok-pass_text-in-Waiting.ensures.passed;
  reached = reach_more _ _ _ _ _ _ _
      (reach_printed _ _ _ _ _ c.loop.invariant.reached c.in_ok-standing.ensures.standing_kept)
      (c.in_ok-standing.ensures.none_left.none ∙ ap (outcome []) c.in-Waiting.is)
      c.loop.invariant.piece c.in_ok-pass_text-in-Waiting.ensures.taken;
}

pub returns-in_default-clause-listed : goal.returns-in_default-clause-listed
returns-in_default-clause-listed g c = λ shown shows.
    all_printed shown _ _ _ _ _ _ _ _ _ (g.S.Stage.lawful c.print_items.new.stage) c.in_ok-standing.ensures.none_left
    c.in_default.not-Waiting
    (print_more shown _ _ _ _ _ _ _ _ (c.loop.invariant.so_far shown shows) (c.in_ok-standing.ensures.printed shown shows))
    c.in_ok-print_standing-in_default.ensures.printed

pub returns-in_default-clause-read : goal.returns-in_default-clause-read
returns-in_default-clause-read g c = λ whole. read_to _ _ _ _ _
    (reach_printed _ _ _ _ _ c.loop.invariant.reached c.in_ok-standing.ensures.standing_kept)
    c.in_ok-standing.ensures.none_left.none c.in_default.not-Waiting
