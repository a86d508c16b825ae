use Rattle.std.proofs.Common.{◌≡◌, ℕ, slice_index_or, None, sym, ap, ◌∙◌, arith}
use Rattle.std.proofs.lemmas.List.{get_or_default}
use Rattle.mesh_table.specs.declared.key.Key.{Key}
use Rattle.mesh_table.specs.Probing.{holding}
use Rattle.mesh_table.proofs.Keys.{same_key_true}
use Rattle.mesh_table.proofs.ring.Ring.probe.Goals as goal

pub returns-in-Some : goal.returns-in-Some
returns-in-Some g c =
    let s = c.args.self.now in
    let r = c.in-Some.record in
    let at = get_or_default s.array c.ahead-i.result None c.index-self-i.result (omega (arith, c.ahead-i.ensures.inside, s.long)) in
    let here = at ∙ ap (λ (x : ℕ). slice_index_or s.array x c.index-self-i.result) (sym c.i.view_is) ∙ c.in-Some.is in
    let same : r.key ≡ c.args.key = same_key_true r.key c.args.key (sym c.eq.ensures ∙ c.if-eq.true) in
    (r.value, here ∙ ap (λ (x : Key). holding x r.value) same)
