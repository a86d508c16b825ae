use Rattle.std.proofs.Common.{sym}
use Rattle.mesh_reader.proofs.Words.{none_next, one_next, blanks_off, word_off}
use Rattle.mesh_reader.proofs.scan.Rest.next_word.Goals as goal

pub returns-then-at_word_end : goal.returns-then-at_word_end
returns-then-at_word_end c =
    let old = c.args.self.now in
    let at = c.skip_blanks.new.self in
    let p = c.skip_blanks.ensures in
    record { same = blanks_off old at p; next = none_next old at p (sym c.if-at_word_end.ensures) }

pub returns : goal.returns
returns c =
    let old = c.args.self.now in
    let at = c.skip_blanks.new.self in
    let new = c.numeral.new.self in
    let p = c.skip_blanks.ensures in
    let w = c.numeral.ensures in
    record { same = word_off old at new p w.after; next = one_next old at new c.numeral.result p (sym c.if-at_word_end.ensures) w.after w.value }
