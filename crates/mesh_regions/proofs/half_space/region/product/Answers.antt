use Rattle.std.proofs.Common.{subst, ◌≤ℤ◌, negsuc, pos, ℤ, sym, arith}
use Rattle.std.proofs.lemmas.Grind.{common_steps}
use Rattle.mesh_regions.proofs.Products.{product_above, product_below}
use Rattle.mesh_regions.proofs.half_space.region.product.Goals as goal

pub returns-clause-value : goal.returns-clause-value
returns-clause-value c = grind (arith, common_steps)

pub returns-clause-above : goal.returns-clause-above
returns-clause-above c = subst (λ (z : ℤ). negsuc 2147483647999 ≤ℤ z) (sym (returns-clause-value c)) (product_above c.args.factor c.args.coordinate c.requires c.ranges.coordinate)

pub returns-clause-below : goal.returns-clause-below
returns-clause-below c = subst (λ (z : ℤ). z ≤ℤ pos 2147483648000) (sym (returns-clause-value c)) (product_below c.args.factor c.args.coordinate c.requires c.ranges.coordinate)
