use Rattle.std.proofs.Common.{◌≡◌, ◌∙◌, eqb, ℤ, ◌*ℤ◌, w64, SFits, to_z, of_z}
use Rattle.std.proofs.lemmas.Int.{to_z-of_z}
use Rattle.mesh_filters.proofs.Products.{product_fits, same_is}
use Rattle.mesh_filters.proofs.clean.degenerate.same_products.Goals as goal

pub returns : goal.returns
returns c =
    let a = c.args in
    let f = c.ranges in
    let n = c.requires in
    let same : (z : ℤ) → SFits w64 z → to_z w64 (of_z w64 z) ≡ z = to_z-of_z w64 in
    (λ i. eqb (of_z w64 (same a.p f.p i *ℤ same a.q f.q i)) (of_z w64 (same a.r f.r i *ℤ same a.s f.s i)))
    ∙ same_is (a.p *ℤ a.q) (a.r *ℤ a.s) (product_fits a.p a.q n.0 n.1) (product_fits a.r a.s n.2 n.3)
