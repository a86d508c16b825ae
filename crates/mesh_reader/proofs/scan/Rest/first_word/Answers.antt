use Rattle.std.proofs.Common.{sym}
use Rattle.mesh_reader.proofs.FirstWords.{missing, comment, letter, other}
use Rattle.mesh_reader.proofs.scan.Rest.first_word.Goals as goal

pub returns-in-None : goal.returns-in-None
returns-in-None c = missing c.args.self.now c.skip_blanks.new.self c.next_in_word.new.self c.skip_blanks.ensures c.in-None.ensures

pub returns-in-Some-eq35 : goal.returns-in-Some-eq35
returns-in-Some-eq35 c =
    comment c.args.self.now c.skip_blanks.new.self c.next_in_word.new.self c.skip_blanks.ensures c.in-Some-eq35.field-0 c.in-Some-eq35.ensures c.in-Some-eq35.field-0-test

pub returns-in-Some : goal.returns-in-Some
returns-in-Some c =
    letter c.args.self.now c.skip_blanks.new.self c.next_in_word.new.self c.skip_blanks.ensures c.in-Some.byte c.in-Some.ensures c.from.result c.from.ensures c.in-Some.byte-test.1
    (sym c.if-at_word_end.ensures)

pub returns-in-Some-2 : goal.returns-in-Some-2
returns-in-Some-2 c =
    other c.args.self.now c.skip_blanks.new.self c.next_in_word.new.self c.skip_blanks.ensures c.in-Some.byte c.in-Some.ensures c.in-Some.byte-test.1 (sym c.if-at_word_end.ensures)
