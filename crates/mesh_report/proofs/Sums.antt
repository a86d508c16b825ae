-- The sums of a report's totals, kept by each event.
use Rattle.std.proofs.Common.{◌≡◌, ℕ, ◌+◌, ◌*◌, ◌<◌, ◌≤◌, ℤ, nat_abs, sym, ap, ◌∙◌, subst, arith}
use Rattle.mesh_judge.specs.Windows.{Window, counted, leaves}
use Rattle.mesh_report.specs.declared.totals.Totals.{Totals}
use Rattle.mesh_report.specs.Sums.{Sums}

module _ {T : Type 0} (w u : Window T) (t : Totals) where
  pub sums_same : u ≡ w → Sums w t → Sums u t
  sums_same e s = subst (λ (z : Window T). Sums z t) (sym e) s

  pub sums_final : (i : ℕ) → u ≡ leaves w i → u.live_count + 1 ≡ w.live_count → Sums w t
      → (t.vertices ≤ u.highest) × (t.triangles ≡ u.triangles) × (t.finalized + 1 + u.live_count ≡ t.vertices) × (nat_abs t.area ≤ 80000000000 * t.triangles)
  sums_final i e c (v, f, x, a) =
      let h : u.highest ≡ w.highest = ap (λ (z : Window T). z.highest) e in
      let k : u.triangles ≡ w.triangles = ap (λ (z : Window T). z.triangles) e in
      (omega arith, f ∙ sym k, omega arith, a)

  pub sums_triangle : (z : ℤ) → u ≡ counted w → nat_abs z ≤ 80000000000 * (t.triangles + 1) → Sums w t
      → (t.vertices ≤ u.highest) × (t.triangles + 1 ≡ u.triangles) × (t.finalized + u.live_count ≡ t.vertices) × (nat_abs z ≤ 80000000000 * (t.triangles + 1))
  sums_triangle z e b (v, f, x, a) =
      let h : u.highest ≡ w.highest = ap (λ (y : Window T). y.highest) e in
      let k : u.triangles ≡ w.triangles + 1 = ap (λ (y : Window T). y.triangles) e in
      let l : u.live_count ≡ w.live_count = ap (λ (y : Window T). y.live_count) e in
      (omega arith, omega arith, omega arith, b)

  -- there is room for one triangle more
  pub few_triangles : u ≡ counted w → u.triangles ≤ 100000000 → Sums w t → t.triangles < 100000000
  few_triangles e b (v, f, x, a) = let k : u.triangles ≡ w.triangles + 1 = ap (λ (y : Window T). y.triangles) e in omega arith
