use Rattle.std.proofs.Common.{◌≡◌, ℕ, ◌∷◌, [], ◌++◌, length-set, take, subst, ◌∙◌, arith}
use Rattle.std.proofs.lemmas.List.{drop-set-lt}
use Rattle.mesh_layer.specs.Orders.{AreCalls}
use Rattle.mesh_layer.proofs.Runs.{run_push, calls_more, lawful_run, call_of}
use Rattle.mesh_layer.specs.Layering.{seen}
use Rattle.mesh_layer.proofs.work.work_off.Goals as goal

pub loop-i-preserved : goal.loop-i-preserved
loop-i-preserved g c =
    let i = c.loop-i.i in
    let log = c.loop-i.log in
    let (same, rest, (cs, called, run)) = c.loop-i.invariant in
    let (call, is, step) = call_of (seen g.P.Stage c.loop-i.pile) _ c.obey.result (seen g.P.Stage c.obey.new.pile) c.obey.ensures in
    let test = c.loop-i-test.true in
    let count = c.min-count.ensures in (
      length-set log i c.obey.result ∙ same,
      (λ j h. drop-set-lt j log i c.obey.result (omega arith) ∙ rest j (omega arith)),
      (cs ++ (call ∷ []), calls_more c.args.orders.now log i _ cs c.obey.result call (omega arith) (omega arith) called is, run_push cs _ _ _ call run step),
    )

pub returns : goal.returns
returns g c =
    let (same, rest, (cs, called, run)) = c.loop-i.invariant in
    let i = c.loop-i.i in
    let n = c.min-count.result in
    let test = c.loop-i-test.false in
    let end = c.loop-i.auto.i-end in
    let at : i ≡ n = omega arith in
    record {
      count = c.min-count.ensures;
      calls = cs;
      logged = subst (λ (k : ℕ). AreCalls (take k c.args.orders.now) (take k c.loop-i.log) cs) at called;
      run = run;
      law = lawful_run _ _ cs run;
      rest = rest n (omega arith);
    }
