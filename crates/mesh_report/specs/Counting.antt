-- How one event is counted: r is the report before the call, s after it.
use Rattle.std.specs.Prelude.{◌≡◌, ℕ, ◌+◌, max, ℤ, ◌+ℤ◌, Ok, Err, Result}
use Rattle.mesh_stream.specs.declared.fault.Cause.{Cause}
use Rattle.mesh_judge.specs.declared.live.Live.{Live}
use Rattle.mesh_judge.specs.declared.live.Corners.{Corners}
use Rattle.mesh_judge.specs.Judging.{Entered, Counted, Left, window_of}
use Rattle.mesh_report.specs.declared.totals.Totals.{Totals}
use Rattle.mesh_report.specs.declared.report.Report.{Report}
use Rattle.mesh_report.specs.Areas.{twice_area}

abbrev pub one_vertex : Totals → Totals
one_vertex t = record t { vertices = t.vertices + 1 }

abbrev pub one_triangle : ℤ → Totals → Totals
one_triangle z t = record t { triangles = t.triangles + 1; area = t.area +ℤ z }

abbrev pub one_finalized : Totals → Totals
one_finalized t = record t { finalized = t.finalized + 1 }

abbrev pub at_least_wide : ℕ → Totals → Totals
at_least_wide n t = record t { width = max t.width n }

-- The judge decides, an accepted event is counted, and no other.
module _ (r : Report) where
  abbrev pub VertexCounted : ℕ → Live (Unit {0}) → Result (Unit {0}) Cause → Report → Type 0
  VertexCounted n x (Ok u) s = Entered r.judge n x (Ok u) s.judge × (s.totals ≡ one_vertex r.totals) × (s.standing ≡ r.standing)
  VertexCounted n x (Err c) s = Entered r.judge n x (Err c) s.judge × (s.totals ≡ r.totals) × (s.standing ≡ r.standing)

  abbrev pub TriangleCounted : ℕ → ℕ → ℕ → Result (Unit {0}) Cause → Report → Type 0
  TriangleCounted a b c (Ok u) s = (k : Corners (Unit {0})) × Counted r.judge a b c (Ok k) s.judge × (s.totals ≡ one_triangle (twice_area k.a.at k.b.at k.c.at) r.totals) × (s.standing ≡ r.standing)
  TriangleCounted a b c (Err q) s = Counted r.judge a b c (Err q) s.judge × (s.totals ≡ r.totals) × (s.standing ≡ r.standing)

  abbrev pub FinalizationCounted : ℕ → Result (Unit {0}) Cause → Report → Type 0
  FinalizationCounted i (Ok u) s = (x : Live (Unit {0})) × Left r.judge i (Ok x) s.judge × (s.totals ≡ one_finalized r.totals) × (s.standing ≡ r.standing)
  FinalizationCounted i (Err q) s = Left r.judge i (Err q) s.judge × (s.totals ≡ r.totals) × (s.standing ≡ r.standing)

  pub record WidthNoted (s : Report) : Type 0 where
    pub judge : s.judge ≡ r.judge
    pub totals : s.totals ≡ at_least_wide (window_of r.judge).live_count r.totals
    pub standing : s.standing ≡ r.standing
