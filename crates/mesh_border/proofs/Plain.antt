-- A window without what is noted of the vertices: it judges alike, and goes on alike.
use Rattle.std.proofs.Common.{◌≡◌, ℕ, zero, suc, ◌+◌, ◌-◌, Bool, true, false, cond, ◌==◌, Some, None, Option, is_some, refl}
use Rattle.std.specs.Option.{option_map, option_or}
use Rattle.mesh_stream.specs.declared.event.Event.{Event}
use Rattle.mesh_stream.specs.declared.event.Event.TheVariants.{Vertex, Triangle, Finalization}
use Rattle.mesh_stream.specs.declared.fault.LayerName.{LayerName}
use Rattle.mesh_stream.specs.declared.stage.Standing.{Standing}
use Rattle.mesh_stream.specs.declared.stage.Standing.TheVariants.{Waiting, Ended, Faulty}
use Rattle.mesh_judge.specs.declared.live.Live.{Live}
use Rattle.mesh_judge.specs.Windows.{Window, refuses, enters, leaves, first, end_by, ending}
use Rattle.mesh_border.specs.Keeping.{plain_live, plain}

map_some : {A B : Type 0} (f : A → B) (o : Option A) → is_some (option_map f o) ≡ is_some o
map_some f None = refl
map_some f (Some x) = refl

map_or : {A B : Type 0} (f : A → B) (o p : Option A) → option_or (option_map f o) (option_map f p) ≡ option_map f (option_or o p)
map_or f None p = refl
map_or f (Some x) p = refl

map_cond : {A B : Type 0} (f : A → B) (b : Bool) (o p : Option A) → option_map f (cond b o p) ≡ cond b (option_map f o) (option_map f p)
map_cond f true o p = refl
map_cond f false o p = refl

module _ {T : Type 0} (w : Window T) where
  pub plain_refuses : (limit : ℕ) (e : Event) → refuses limit (plain w) e ≡ refuses limit w e
  plain_refuses limit (Vertex p n v) = refl
  plain_refuses limit (Triangle p a b c) =
      rw (map_some (plain_live {T = T}) (w.at a), map_some (plain_live {T = T}) (w.at b), map_some (plain_live {T = T}) (w.at c)) refl
  plain_refuses limit (Finalization p i) = rw (map_some (plain_live {T = T}) (w.at i)) refl

  pub plain_enters : (n : ℕ) (x : Live T) → plain (enters w n x) ≡ enters (plain w) n (plain_live x)
  plain_enters n x = λ i. record {
    at = λ k. map_cond plain_live (k == n) (Some x) (w.at k) i;
    live_count = w.live_count + 1;
    highest = n;
    triangles = w.triangles;
  }

  pub plain_leaves : (n : ℕ) → plain (leaves w n) ≡ leaves (plain w) n
  plain_leaves n = λ i. record {
    at = λ k. map_cond plain_live (k == n) None (w.at k) i;
    live_count = w.live_count - 1;
    highest = w.highest;
    triangles = w.triangles;
  }

  first_plain : (k : ℕ) → first (plain w).at k ≡ option_map plain_live (first w.at k)
  first_plain zero = refl
  first_plain (suc k) = rw (first_plain k) (map_or plain_live (first w.at k) (w.at (suc k)))

  end_plain : (layer : LayerName) (o : Option (Live T)) → end_by layer (option_map plain_live o) ≡ end_by layer o
  end_plain layer None = refl
  end_plain layer (Some x) = refl

  pub plain_ending : (layer : LayerName) (s : Standing) → ending layer (plain w) s ≡ ending layer w s
  plain_ending layer Waiting = refl
  plain_ending layer Ended = rw (first_plain w.highest) (end_plain layer (first w.at w.highest))
  plain_ending layer (Faulty f) = refl
