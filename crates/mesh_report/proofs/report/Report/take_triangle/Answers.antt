use Rattle.std.proofs.Common.{◌+◌, ◌+ℤ◌, refl, ◌∙◌, w64, SFits, to_z, of_z, rules}
use Rattle.std.proofs.lemmas.Result.{err_from_is_err_and}
use Rattle.mesh_judge.specs.Judging.{window_of}
use Rattle.mesh_report.proofs.Areas.{area_sum}
use Rattle.mesh_report.proofs.Sums.{sums_same, sums_triangle, few_triangles}
use Rattle.mesh_report.proofs.report.Report.take_triangle.Goals as goal

pub invariant_of-self : goal.invariant_of-self
invariant_of-self c =
    let r = c.args.self.now in
    record { sums = sums_same (window_of r.judge) (window_of c.triangle.new.self) r.totals (c.in_err-corners.ensures 0).window r.sums }

pub returns-in_err-corners : goal.returns-in_err-corners
returns-in_err-corners c =
    let p = err_from_is_err_and c.from_residual.result c.from_residual.ensures.1 in
    rw (p.1, p.2) (c.in_err-corners.ensures, refl, refl)

pub invariant_of-self-2 : goal.invariant_of-self-2
invariant_of-self-2 c =
    let r = c.args.self.now in
    let j = c.triangle.new.self in
    let e = (c.in_ok-corners.ensures.0 0).window in
    let f : SFits w64 r.totals.area = search rules in
    let a = area_sum r.totals.area c.twice_area.result r.totals.triangles f (record { sfits = c.twice_area.type_inv }) r.sums.3 c.twice_area.ensures.1
    (few_triangles (window_of r.judge) (window_of j) r.totals e j.few r.sums) in
    record { sums = sums_triangle (window_of r.judge) (window_of j) r.totals (to_z w64 (of_z w64 (to_z w64 (of_z w64 r.totals.area) +ℤ to_z w64 (of_z w64 c.twice_area.result)))) e a.1 r.sums }

pub returns : goal.returns
returns c =
    let r = c.args.self.now in
    let j = c.triangle.new.self in
    let k = c.in_ok-corners.corners in
    let t = c.in_ok-corners.ensures in
    let f : SFits w64 r.totals.area = search rules in
    let a = area_sum r.totals.area c.twice_area.result r.totals.triangles f (record { sfits = c.twice_area.type_inv }) r.sums.3 c.twice_area.ensures.1
    (few_triangles (window_of r.judge) (window_of j) r.totals (t.0 0).window j.few r.sums) in (
      k,
      t,
      (λ i. record r.totals { triangles = r.totals.triangles + 1; area = (a.0 ∙ (λ n. r.totals.area +ℤ c.twice_area.ensures.0 n)) i }),
      refl,
    )
