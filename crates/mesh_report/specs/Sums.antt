-- What a report's totals keep, whatever was taken.
use Rattle.std.specs.Prelude.{◌≡◌, ◌+◌, ◌*◌, ◌≤◌, unsigned_abs}
use Rattle.mesh_judge.specs.Windows.{Window}
use Rattle.mesh_report.specs.declared.totals.Totals.{Totals}

-- There are no more vertices than numbers up to the highest, a vertex is live or finalized, and no triangle adds more than
-- 80,000,000,000 to the area.
abbrev pub Sums : {T : Type 0} → Window T → Totals → Type 0
Sums w t =
    (t.vertices ≤ w.highest) × (t.triangles ≡ w.triangles) × (t.finalized + w.live_count ≡ t.vertices)
    × (unsigned_abs t.area ≤ 80000000000 * t.triangles)
