use Rattle.std.proofs.Common.{sym, ◌∙◌, arith, length-set}
use Rattle.mesh_reader.specs.Scanning.{rest_numerals}
use Rattle.mesh_reader.proofs.Words.{same_further, read_more, all_read, more_left}
use Rattle.mesh_reader.proofs.scan.Rest.exactly.Goals as goal

pub loop-word-preserved : goal.loop-word-preserved
loop-word-preserved g c =
    let i = c.loop-word.invariant in
    let e = c.in_ok-word.ensures in
    let test = c.loop-word-test.true in
    let word = c.in_ok-word.field-0 in
    record {
      same = same_further c.args.self.now c.loop-word.self c.next_word.new.self i.same e.same;
      size = length-set c.loop-word.word-items c.loop-word.word-index word ∙ i.size;
      read = read_more c.loop-word.word-index c.loop-word.word-items (rest_numerals c.args.self.now) (rest_numerals c.loop-word.self) (rest_numerals c.next_word.new.self) word (omega arith) i.read e.next;
    }

pub returns-in-None-clause-words : goal.returns-in-None-clause-words
returns-in-None-clause-words g c =
    let i = c.loop-word.invariant in
    sym (all_read g.row.N c.loop-word.word-index c.loop-word.word-items (rest_numerals c.args.self.now) (rest_numerals c.loop-word.self) c.loop-word.auto.word-index-end c.loop-word-test.false i.size i.read c.in-None.ensures.next)

pub returns-in-Some-clause-words : goal.returns-in-Some-clause-words
returns-in-Some-clause-words g c =
    let i = c.loop-word.invariant in
    sym (more_left g.row.N c.loop-word.word-index c.loop-word.word-items (rest_numerals c.args.self.now) (rest_numerals c.loop-word.self) c.loop-word.auto.word-index-end c.loop-word-test.false i.size i.read c.in-Some.field-0 (rest_numerals c.next_word-2.new.self) c.in-Some.ensures.next)

pub returns-in_err-word-clause-same : goal.returns-in_err-word-clause-same
returns-in_err-word-clause-same g c =
    same_further c.args.self.now c.loop-word.self c.next_word.new.self c.loop-word.invariant.same c.in_err-word.ensures.same

pub returns-in-None-clause-same : goal.returns-in-None-clause-same
returns-in-None-clause-same g c =
    same_further c.args.self.now c.loop-word.self c.next_word-2.new.self c.loop-word.invariant.same c.in-None.ensures.same

pub returns-in-Some-clause-same : goal.returns-in-Some-clause-same
returns-in-Some-clause-same g c =
    same_further c.args.self.now c.loop-word.self c.next_word-2.new.self c.loop-word.invariant.same c.in-Some.ensures.same
