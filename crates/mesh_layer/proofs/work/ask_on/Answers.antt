use Rattle.std.proofs.Common.{List, ◌∷◌, [], length-set, take, map, sym, ap, subst, ◌∙◌, arith}
use Rattle.std.proofs.lemmas.List.{take_more_set, take_all, map-append}
use Rattle.mesh_stream.specs.declared.event.Event.{Event}
use Rattle.mesh_stream.specs.Runs.{Call, asks, Run}
use Rattle.mesh_layer.specs.Layering.{seen}
use Rattle.mesh_layer.proofs.Runs.{run_push, lawful_run}
use Rattle.mesh_layer.proofs.work.ask_on.Goals as goal

pub loop-i-preserved : goal.loop-i-preserved
loop-i-preserved g c =
    let i = c.loop-i.i in
    let log = c.loop-i.log in
    let inv = c.loop-i.invariant in
    let test = c.loop-i-test.true in
    let same = inv.0 in
    let more = ap (map asks) (take_more_set log i c.next.result (omega arith)) ∙ map-append asks (take i log) (c.next.result ∷ []) in (
      length-set log i c.next.result ∙ same,
      subst (λ (cs : List (Call Event)). Run (seen g.P.Stage c.args.pile.now) cs (seen g.P.Stage c.next.new.self)) (sym more)
          (run_push (map asks (take i log)) _ _ _ (asks c.next.result) inv.1 c.next.ensures),
    )

pub returns : goal.returns
returns g c =
    let log = c.loop-i.log in
    let same = c.loop-i.invariant.0 in
    let test = c.loop-i-test.false in
    let all = take_all c.loop-i.i log (omega arith) in
    let run = subst (λ (xs : List _). Run (seen g.P.Stage c.args.pile.now) (map asks xs) (seen g.P.Stage c.loop-i.pile)) all c.loop-i.invariant.1 in
    record { count = same; run = run; law = lawful_run _ _ (map asks log) run }
