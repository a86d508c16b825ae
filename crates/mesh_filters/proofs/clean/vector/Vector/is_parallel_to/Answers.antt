use Rattle.std.proofs.Common.{◌≡◌, Bool, true, ◌&&◌, true≢false, sym, ◌∙◌}
use Rattle.mesh_filters.proofs.Bits.{products_passed}
use Rattle.mesh_filters.proofs.clean.vector.Vector.is_parallel_to.Goals as goal
use Rattle.mesh_filters.proofs.clean.vector.Vector.is_parallel_to.Goals.{then-same_products, else-same_products}

-- where two tests hold, all three hold as the third does
third : (x y z : Bool) → x ≡ true → y ≡ true → z ≡ (x && y && z)
third x y z e f = λ i. sym e i && sym f i && z

pub returns-then-same_products-2 : goal.returns-then-same_products-2
returns-then-same_products-2 c =
    let u = c.args.self in
    let v = c.args.v in
    let (ux, uy, uz) = u.near in
    let (vx, vy, vz) = v.near in
    let first = c.same_products.ensures ∙ products_passed u.y v.z u.z v.y uy vz uz vy in
    let last = c.same_products-then-same_products-2.ensures ∙ products_passed u.x v.y u.y v.x ux vy uy vx in
    elim c.if-same_products.branch [
      | then-same_products w ↦
          let second = w.same_products-then-same_products.ensures ∙ products_passed u.z v.x u.x v.z uz vx ux vz in
          last ∙ third _ _ _ (sym first ∙ w.if-same_products.true) (sym second ∙ sym w.value-is ∙ c.if-same_products-2.true)
      | else-same_products w ↦ absurd (true≢false (sym c.if-same_products-2.true ∙ w.value-is ∙ w.if-same_products.false))
    ]
