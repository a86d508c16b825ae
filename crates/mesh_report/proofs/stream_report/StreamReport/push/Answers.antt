use Rattle.std.proofs.Common.{ℕ, List, ◌++◌, length, sym, ◌∙◌, subst, arith, length-drop}
use Rattle.std.proofs.lemmas.Bool.{eqb-true, eqb-false}
use Rattle.std.proofs.lemmas.List.{nil_from_length, take_rest}
use Rattle.mesh_report.specs.Streaming.{WillReport}
use Rattle.mesh_report.proofs.Streaming.{will_stay, stays_roomy, will_feed, will_refuse, will_settled, roomy_takes}
use Rattle.mesh_report.proofs.stream_report.StreamReport.push.Goals as goal

pub loop-self-init : goal.loop-self-init
loop-self-init g c t o w = w

pub returns-in_default : goal.returns-in_default
returns-in_default g c t o w =
    let law = g.S.Stage.lawful c.run_out.new.stage in
    will_settled _ _ _ (λ e. c.in_default.not-Waiting (c.standing.ensures ∙ e)) t o
    (will_stay _ _ _ _ _ _ law c.run_out.ensures _ o (c.loop-self.invariant t o w))

pub returns-then-is_empty : goal.returns-then-is_empty
returns-then-is_empty g c t o w =
    let law = g.S.Stage.lawful c.run_out.new.stage in
    let e = nil_from_length c.loop-self.rest.now (eqb-true _ _ (sym c.if-is_empty.ensures)) in
    subst (λ (z : List ℕ). WillReport (g.S.Stage.meaning c.run_out.new.stage) c.run_out.new.self (z ++ t) o) e
    (will_stay _ _ _ _ _ _ law c.run_out.ensures _ o (c.loop-self.invariant t o w))

pub returns-in_default-feed : goal.returns-in_default-feed
returns-in_default-feed g c t o w =
    let law = g.S.Stage.lawful c.run_out.new.stage in
    will_refuse _ _ _ _ _ _ c.in_default-feed.field-0 law c.in_default-feed.ensures t o (will_stay _ _ _ _ _ _ law c.run_out.ensures _ o (c.loop-self.invariant t o w))

pub loop-self-smaller : goal.loop-self-smaller
loop-self-smaller g c =
    let rest = c.loop-self.rest.now in
    let some = eqb-false (length rest) 0 (sym c.is_empty.ensures ∙ c.if-is_empty.false) in
    let roomy = stays_roomy _ _ _ _ _ _ (g.S.Stage.lawful c.run_out.new.stage) c.run_out.ensures (sym c.in-Waiting.ensures) in
    let k = roomy_takes c.run_out.new.self _ _ _ _ rest _ c.in-Ok.ensures roomy (omega arith) in
    rw (take_rest rest c.in-Ok.taken) (omega (arith, length-drop c.in-Ok.taken rest))

pub loop-self-preserved : goal.loop-self-preserved
loop-self-preserved g c t o w =
    let law = g.S.Stage.lawful c.run_out.new.stage in
    subst (λ (z : List ℕ). WillReport (g.S.Stage.meaning c.feed.new.self) c.run_out.new.self (z ++ t) o) (sym (take_rest c.loop-self.rest.now c.in-Ok.taken))
    (will_feed _ _ _ _ _ _ _ c.in-Ok.ensures t o (will_stay _ _ _ _ _ _ law c.run_out.ensures _ o (c.loop-self.invariant t o w)))
