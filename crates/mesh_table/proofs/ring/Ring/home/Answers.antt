use Rattle.std.proofs.Common.{ℕ, ◌*◌, ◌/◌, ◌^◌, ◌<◌, sym, ap, subst}
use Rattle.mesh_table.specs.Probing.{home_slot}
use Rattle.mesh_table.proofs.Steps.{home_below}
use Rattle.mesh_table.proofs.ring.Ring.home.Goals as goal

pub invariant_of-result : goal.invariant_of-result
unfolding home_slot
invariant_of-result g c =
    let n = g.row.N in (
      subst (λ (x : ℕ). x * n / 2 ^ 32 < n) (sym c.spread.ensures) (home_below n c.args.key c.args.self.now.has_slots),
      c.args.self.now.few_slots,
    )

pub returns : goal.returns
unfolding home_slot
returns g c = ap (λ (x : ℕ). x * g.row.N / 2 ^ 32) c.spread.ensures
