use Rattle.std.proofs.Common.{◌≡◌, ℕ, List, ◌-◌, ◌≤◌, ◌++◌, length, take, refl, subst, arith}
use Rattle.std.specs.Io.KnownBytes.{Consumes}
use Rattle.mesh_stream.specs.declared.event.Event.{Event}
use Rattle.mesh_stream.specs.Meaning.{Outcome}
use Rattle.mesh_report.specs.Streaming.{WillSay}
use Rattle.report.proofs.Telling.{begun, pushed, told_end}
use Rattle.report.proofs.Turns.{no_turn, turn_more}
use Rattle.report.proofs.report_on.Goals as goal

pub loop-init : goal.loop-init
loop-init g c = record { piece = refl; told = λ says will. begun _ says _ _ will; turns = no_turn _ }

pub returns-then-length-eq0 : goal.returns-then-length-eq0
returns-then-length-eq0 g c = λ says will.
    let bytes = c.in_ok-length.ensures.bytes in
    let none = c.if-length-eq0.true in
    told_end _ says _ _ _ _ _ (c.loop.invariant.told says will)
    (subst (λ (n : ℕ). Consumes (g.R.Read.remaining c.loop.input) (g.R.Read.remaining c.read.new.self) (take n c.read.new.buf)) none bytes.0)
    (bytes.1 none (omega arith)) c.finish.ensures

pub loop-preserved : goal.loop-preserved
loop-preserved g c =
    let means = g.S.Stage.meaning in
    let n = c.in_ok-length.length in
    let buf = c.read.new.buf in
    let some : 1 ≤ length (take n buf) = omega (arith, c.in_ok-length.ensures.bound.1, c.if-length-eq0.false) in
    let whole : n ≡ n - 0 = omega arith in
    let pushed_on : (t : List ℕ) (o : Outcome Event) → WillSay means c.loop.report (take n buf ++ t) o → WillSay means c.push.new.self t o =
    λ t o w. c.push.ensures t o (subst (λ (k : ℕ). WillSay means c.loop.report (take k buf ++ t) o) whole w) in
    record {
      piece = omega arith;
      told = λ says will. pushed _ says _ _ _ _ _ _ (c.loop.invariant.told says will) c.in_ok-length.ensures.bytes.0 pushed_on;
      turns = turn_more _ _ _ _ _ c.loop.invariant.turns c.in_ok-length.ensures.bytes.0 some;
    }
