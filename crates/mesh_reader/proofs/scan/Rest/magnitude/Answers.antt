use Rattle.std.proofs.Common.{sym, ◌∙◌}
use Rattle.mesh_reader.proofs.Magnitudes.{word_passed, magnitude_whole, word_goes_on, magnitude_partial}
use Rattle.mesh_reader.proofs.scan.Rest.magnitude.Goals as goal

pub returns-then-at_word_end-2 : goal.returns-then-at_word_end-2
returns-then-at_word_end-2 c =
    let old = c.args.self.now in
    let rest = c.digits_of_word-value.new.self in
    let v = c.digits_of_word-value.result in
    let e = sym c.if-at_word_end-2.ensures in
    record {
      after = word_passed old rest v c.digits_of_word-value.ensures e;
      value = sym (magnitude_whole old rest v c.digits_of_word-value.ensures (sym c.if-at_word_end.ensures) e);
    }

pub returns : goal.returns
returns c =
    let old = c.args.self.now in
    let rest = c.digits_of_word-value.new.self in
    let v = c.digits_of_word-value.result in
    let e = sym c.if-at_word_end-2.ensures in
    record {
      after = c.skip_word.ensures ∙ word_goes_on old rest v c.digits_of_word-value.ensures e;
      value = sym (magnitude_partial old rest v c.digits_of_word-value.ensures e);
    }
