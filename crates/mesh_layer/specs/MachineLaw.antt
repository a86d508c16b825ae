-- A patient machine filters.
use Rattle.std.specs.Prelude.{◌≡◌, refl, List, [], ◌∷◌, ◌++◌}
use Rattle.std.proofs.Common.{sym, ap, ◌∙◌, append_assoc}
use Rattle.mesh_stream.specs.declared.stage.Standing.{Standing}
use Rattle.mesh_stream.specs.Meaning.{Outcome, Begins, IsWaiting}
use Rattle.mesh_stream.specs.Runs.{prepends}
use Rattle.mesh_layer.specs.Filtering.{Filtering}
use Rattle.mesh_layer.specs.Machine.{Verdict, goes, stops, Machine, after, run, runs_on, Patient}

module _ {M I O : Type 0} (w : Machine M I O) (p : Patient w) where
  begins_by : (v : Verdict M O) (k j : M → Outcome O) → ((m : M) → Begins (k m).items (j m).items)
      → Begins (after v k).items (after v j).items
  begins_by (goes m os) k j h = ((h m).0, ap (λ (z : List O). os ++ z) (h m).1 ∙ sym (append_assoc os (k m).items (h m).0))
  begins_by (stops f) k j h = ([], refl)

  run_begins : (xs zs : List I) (s r : Standing) (m : M) → Begins (run w m xs s).items (run w m (xs ++ zs) r).items
  run_begins [] zs s r m = ((run w m zs r).items, refl)
  run_begins (x ∷ xs) zs s r m = begins_by (w.step m x) (λ n. run w n xs s) (λ n. run w n (xs ++ zs) r) (run_begins xs zs s r)

  waits_by : (v : Verdict M O) (k : M → Outcome O) (s : Standing) → ((m : M) → IsWaiting (k m).stands → IsWaiting s)
      → IsWaiting (after v k).stands → IsWaiting s
  waits_by (goes m os) k s h = h m
  waits_by (stops f) k s h = λ z. absurd z

  run_waits : (xs : List I) (s : Standing) (m : M) → IsWaiting (run w m xs s).stands → IsWaiting s
  run_waits [] s m = p.waits m s
  run_waits (x ∷ xs) s m = waits_by (w.step m x) (λ n. run w n xs s) s (run_waits xs s)

  stops_by : (v : Verdict M O) (k j : M → Outcome O) → ((m : M) → (IsWaiting (k m).stands → ⊥) → j m ≡ k m)
      → (IsWaiting (after v k).stands → ⊥) → after v j ≡ after v k
  stops_by (goes m os) k j h n = ap (prepends os) (h m n)
  stops_by (stops f) k j h n = refl

  run_stops : (xs zs : List I) (s r : Standing) (m : M) → IsWaiting s → (IsWaiting (run w m xs s).stands → ⊥)
      → run w m (xs ++ zs) r ≡ run w m xs s
  run_stops [] zs s r m h n = absurd (n (p.stays m s h))
  run_stops (x ∷ xs) zs s r m h n = stops_by (w.step m x) (λ q. run w q xs s) (λ q. run w q (xs ++ zs) r) (λ q. run_stops xs zs s r q h) n

  pub machine_filters : (os : List O) (m : M) → Filtering (runs_on w os m)
  machine_filters os m = record {
    begins = λ xs zs s r.
        (let (ys, e) = run_begins xs zs s r m in (ys, ap (λ (z : List O). os ++ z) e ∙ sym (append_assoc os (run w m xs s).items ys)));
    waits = λ o. run_waits o.items o.stands m;
    stops = λ xs zs s r h n. ap (prepends os) (run_stops xs zs s r m h n);
  }
