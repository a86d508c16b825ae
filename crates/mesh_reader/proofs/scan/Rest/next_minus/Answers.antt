use Rattle.std.proofs.Common.{rules, ◌==◌, sym, subst}
use Rattle.mesh_reader.specs.Scanning.{NextMinus}
use Rattle.mesh_reader.proofs.Words.{minus_next}
use Rattle.mesh_reader.proofs.scan.Rest.next_minus.Goals as goal

pub returns : goal.returns
returns c =
    let old = c.args.self.now in
    let new = c.next_if.new.self in
    subst (λ t. NextMinus old t new) (sym c.is_some.ensures) (minus_next old new c.next_if.result (c.next_if.ensures (λ b. b == 45) (search rules)))
