use Rattle.std.proofs.Common.{sym, ◌∙◌, subst, arith}
use Rattle.std.proofs.lemmas.Bool.{ltb-true, ltb-false}
use Rattle.mesh_table.specs.Probing.{Behind}
use Rattle.mesh_table.proofs.Holes.{whole, ended, passed}
use Rattle.mesh_table.proofs.ring.Ring.cut_off.Goals as goal

pub returns-in_err-record : goal.returns-in_err-record
returns-in_err-record g c =
    let s = c.args.self.now in
    subst (Behind g.row.N s.array c.args.hole) (sym c.from_residual.ensures)
    (ended g.row.N s.array c.args.hole s.long c.requires c.loop-distance.distance c.ahead-i.result (omega arith)
    c.loop-distance-test.true c.ahead-i.ensures.number (sym c.slot.ensures ∙ c.in_err-record.was) c.loop-distance.invariant)

pub returns-then-comes_before : goal.returns-then-comes_before
returns-then-comes_before g c =
    record {
      inside = c.ahead-i.ensures.inside;
      key = c.in_ok-record.record.key;
      value = c.in_ok-record.record.value;
      here = sym c.slot.ensures ∙ c.in_ok-record.was;
      before = ltb-true _ _ (sym c.comes_before.ensures ∙ c.if-comes_before.true);
    }

pub loop-distance-preserved : goal.loop-distance-preserved
loop-distance-preserved g c =
    let s = c.args.self.now in
    let r = c.in_ok-record.record in
    passed g.row.N s.array c.args.hole s.long c.requires r.key r.value c.loop-distance.distance c.ahead-i.result
    c.loop-distance-test.true c.ahead-i.ensures.number (sym c.slot.ensures ∙ c.in_ok-record.was)
    (ltb-false _ _ (sym c.comes_before.ensures ∙ c.if-comes_before.false)) c.loop-distance.invariant

pub returns : goal.returns
returns g c =
    let s = c.args.self.now in
    whole g.row.N s.array c.args.hole s.long c.requires c.loop-distance.distance c.loop-distance-test.false
    c.loop-distance.invariant
