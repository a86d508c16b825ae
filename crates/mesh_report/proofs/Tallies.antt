-- What is counted of one event, by the whole list.
use Rattle.std.proofs.Common.{◌≡◌, ℕ, max, true, List, [], ◌∷◌, ◌++◌, length, Some, None, Ok, sym, ap, ◌∙◌, subst, append-nil, length-append}
use Rattle.std.proofs.lemmas.Option.{same_Some}
use Rattle.mesh_stream.specs.declared.event.Point.{Point}
use Rattle.mesh_stream.specs.declared.event.Event.{Event}
use Rattle.mesh_stream.specs.declared.event.Event.TheVariants.{Vertex, Triangle, Finalization}
use Rattle.mesh_stream.specs.declared.fault.Cause.{Cause}
use Rattle.mesh_stream.specs.Events.{introduced, finalized, point}
use Rattle.mesh_stream.specs.Live.{live, is_live, width}
use Rattle.mesh_stream.proofs.Views.{introduced_v, introduced_t, introduced_f, finalized_v, finalized_t, finalized_f, triangles_v, triangles_t, triangles_f}
use Rattle.mesh_judge.specs.declared.live.Live.{Live}
use Rattle.mesh_judge.specs.declared.judge.Judge.{Judge}
use Rattle.mesh_judge.specs.Accepting.{refusal, Accepted}
use Rattle.mesh_judge.specs.Windows.{Window, Knows}
use Rattle.mesh_judge.specs.Judging.{window_of, live_limit, KnowsList, Accepts, Rejects}
use Rattle.mesh_judge.proofs.Refusing.{triangle_ok}
use Rattle.mesh_judge.proofs.Knowing.{at_live}
use Rattle.mesh_report.specs.declared.totals.Totals.{Totals}
use Rattle.mesh_report.specs.declared.report.Report.{Report}
use Rattle.mesh_report.specs.Areas.{twice_area}
use Rattle.mesh_report.specs.Counting.{one_vertex, one_triangle, one_finalized, at_least_wide, WidthNoted, VertexCounted, TriangleCounted, FinalizationCounted}
use Rattle.mesh_report.specs.Reporting.{totals_of, Taken, TakesOne, TakesNone}
use Rattle.mesh_report.proofs.Adding.{width_step, area_vertex, area_triangle, area_final}

totals_same : (t u : Totals) → t.vertices ≡ u.vertices → t.triangles ≡ u.triangles → t.finalized ≡ u.finalized → t.width ≡ u.width → t.area ≡ u.area → t ≡ u
totals_same t u v f x w a = λ i. record { vertices = v i; triangles = f i; finalized = x i; width = w i; area = a i }

module _ (es : List Event) (e : Event) where
  widest : (n : ℕ) → n ≡ length (live (es ++ (e ∷ []))) → max (width es) n ≡ width (es ++ (e ∷ []))
  widest n h = ap (max (width es)) h ∙ sym (width_step es e)

module _ (limit : ℕ) (es : List Event) (ok : Accepted (refusal limit) es) (LiveNow : ℕ) where
  counts_vertex : (p n : ℕ) (v : Point) → LiveNow ≡ length (live (es ++ (Vertex p n v ∷ []))) → at_least_wide LiveNow (one_vertex (totals_of es)) ≡ totals_of (es ++ (Vertex p n v ∷ []))
  counts_vertex p n v h = totals_same _ _
      (sym (ap length (introduced_v es p n v) ∙ length-append (introduced es) (n ∷ [])))
      (sym (triangles_v es p n v))
      (sym (ap length (finalized_v es p n v)))
      (widest es (Vertex p n v) LiveNow h)
      (sym (area_vertex limit es ok p n v))

  counts_triangle : (p a b c : ℕ) → refusal limit es (Triangle p a b c) ≡ None → LiveNow ≡ length (live (es ++ (Triangle p a b c ∷ [])))
      → at_least_wide LiveNow (one_triangle (twice_area (point es a) (point es b) (point es c)) (totals_of es)) ≡ totals_of (es ++ (Triangle p a b c ∷ []))
  counts_triangle p a b c r h = totals_same _ _
      (sym (ap length (introduced_t es p a b c)))
      (sym (triangles_t es p a b c))
      (sym (ap length (finalized_t es p a b c)))
      (widest es (Triangle p a b c) LiveNow h)
      (sym (area_triangle limit es ok p a b c r))

  counts_final : (p i : ℕ) → LiveNow ≡ length (live (es ++ (Finalization p i ∷ []))) → at_least_wide LiveNow (one_finalized (totals_of es)) ≡ totals_of (es ++ (Finalization p i ∷ []))
  counts_final p i h = totals_same _ _
      (sym (ap length (introduced_f es p i)))
      (sym (triangles_f es p i))
      (sym (ap length (finalized_f es p i) ∙ length-append (finalized es) (i ∷ [])))
      (widest es (Finalization p i) LiveNow h)
      (sym (area_final limit es ok p i))

knows_as : (j k : Judge (Unit {0})) (es : List Event) → window_of k ≡ window_of j → live_limit k ≡ live_limit j → KnowsList j es → KnowsList k es
knows_as j k es w l h = subst (λ (z : Window (Unit {0})). Knows (live_limit k) z es) (sym w) (subst (λ (n : ℕ). Knows n (window_of j) es) (sym l) h)

module _ (r s : Report) where
  -- The judge rejects the event, and nothing is counted.
  pub takes_none : (e : Event) (c : Cause) → Rejects r.judge e c s.judge → s.totals ≡ r.totals → s.standing ≡ r.standing → TakesNone r s e c
  takes_none e c no_event t st = record {
    why = λ es h. subst (λ (l : ℕ). refusal l es e ≡ Some c) h.limit (no_event.by_list es h.knows);
    takes = λ es h. subst (Taken s) (sym (append-nil es)) (record {
      totals = t ∙ h.totals;
      knows = knows_as r.judge s.judge es no_event.window no_event.limit h.knows;
      limit = no_event.limit ∙ h.limit;
    });
    standing = st;
  }

  -- m is the report once the event is accepted and counted, and the width is not noted yet.
  module _ (m : Report) (e : Event) (w : Window (Unit {0})) (yes_event : Accepts r.judge e w m.judge) (same : m.standing ≡ r.standing) (noted : WidthNoted m s) where
    refused_not : (es : List Event) → Taken r es → refusal 1024 es e ≡ None
    refused_not es h = subst (λ (l : ℕ). refusal l es e ≡ None) h.limit (yes_event.by_list es h.knows).0

    takes_one : ((es : List Event) → Taken r es → (window_of m.judge).live_count ≡ length (live (es ++ (e ∷ []))) → at_least_wide (window_of m.judge).live_count m.totals ≡ totals_of (es ++ (e ∷ []))) → TakesOne r s e
    takes_one count = record {
      accepted = refused_not;
      takes = λ es h.
          let k = (yes_event.by_list es h.knows).1 in
          record {
            totals = noted.totals ∙ count es h k.live_count;
            knows = subst (λ (j : Judge (Unit {0})). KnowsList j (es ++ (e ∷ []))) (sym noted.judge) k;
            limit = ap live_limit noted.judge ∙ yes_event.limit ∙ h.limit;
          };
      standing = noted.standing ∙ same;
    }

  accepted_in : (es : List Event) → Taken r es → Accepted (refusal (live_limit r.judge)) es
  accepted_in es h = h.knows.accepted

  pub takes_vertex : (m : Report) (p n : ℕ) (v : Point) → VertexCounted r n (record { place = p; at = v; note = tt }) (Ok tt) m → WidthNoted m s → TakesOne r s (Vertex p n v)
  takes_vertex m p n v (acc, t, st) noted = takes_one m (Vertex p n v) _ acc st noted
      (λ es h l. ap (at_least_wide (window_of m.judge).live_count) (t ∙ ap one_vertex h.totals) ∙ counts_vertex (live_limit r.judge) es (accepted_in es h) _ p n v l)

  pub takes_final : (m : Report) (p i : ℕ) → FinalizationCounted r i (Ok tt) m → WidthNoted m s → TakesOne r s (Finalization p i)
  takes_final m p i (x, acc, t, st) noted = takes_one m (Finalization p i) _ (acc.0 p) st noted
      (λ es h l. ap (at_least_wide (window_of m.judge).live_count) (t ∙ ap one_finalized h.totals) ∙ counts_final (live_limit r.judge) es (accepted_in es h) _ p i l)

  pub takes_triangle : (m : Report) (p a b c : ℕ) → TriangleCounted r a b c (Ok tt) m → WidthNoted m s → TakesOne r s (Triangle p a b c)
  takes_triangle m p a b c (k, acc, t, st) noted = takes_one m (Triangle p a b c) _ (acc.0 p) st noted
      (λ es h l.
      let o = ((acc.0 p).by_list es h.knows).0 in
      let f = triangle_ok (live_limit r.judge) es p a b c o in
      ap (at_least_wide (window_of m.judge).live_count)
      (t ∙ ap (one_triangle (twice_area k.a.at k.b.at k.c.at)) h.totals
      ∙ (λ i. one_triangle (twice_area (at_corner es h a k.a f.first acc.1.first.0 i) (at_corner es h b k.b f.second acc.1.second.0 i) (at_corner es h c k.c f.third acc.1.third.0 i)) (totals_of es)))
      ∙ counts_triangle (live_limit r.judge) es (accepted_in es h) _ p a b c o l)
    where
      at_corner : (es : List Event) → Taken r es → (n : ℕ) (x : Live (Unit {0})) → is_live es n ≡ true → (window_of r.judge).at n ≡ Some x → x.at ≡ point es n
      at_corner es h n x alive e =
          let v = at_live (live_limit r.judge) (window_of r.judge) es h.knows n alive in
          ap (λ (z : Live (Unit {0})). z.at) (same_Some x v.0 (sym e ∙ v.1)) ∙ v.3
