-- What makes an event of each kind accepted.
use Rattle.std.proofs.Common.{◌≡◌, ℕ, Bool, true, false, List, None, Option, refl}
use Rattle.std.proofs.lemmas.Bool.{and_from, both_ways, lt-ltb}
use Rattle.mesh_stream.specs.declared.event.Point.{Point}
use Rattle.mesh_stream.specs.declared.event.Event.{Event}
use Rattle.mesh_stream.specs.declared.event.Event.TheVariants.{Vertex, Triangle, Finalization}
use Rattle.mesh_stream.specs.declared.fault.Cause.{Cause}
use Rattle.mesh_stream.specs.Live.{is_live}
use Rattle.mesh_judge.specs.Accepting.{unless, refusal}
use Rattle.mesh_judge.proofs.Refusing.{VertexOk, TriangleOk}

pub unless_from : (b : Bool) (c : Cause) (o : Option Cause) → b ≡ true → o ≡ None → unless b c o ≡ None
unless_from true c o e h = h
unless_from false c o e h = absurd (both_ways false refl e)

module _ (limit : ℕ) (before : List Event) (l : ℕ) where
  pub ok_vertex : (n : ℕ) (v : Point) → VertexOk limit before n v → refusal limit before (Vertex l n v) ≡ None
  ok_vertex n v k = unless_from _ _ _ k.in_range (unless_from _ _ _ k.above (unless_from _ _ _ (lt-ltb _ _ k.room) refl))

  pub ok_triangle : (a b c : ℕ) → TriangleOk before a b c → refusal limit before (Triangle l a b c) ≡ None
  ok_triangle a b c k =
      unless_from _ _ _ (and_from _ _ (and_from _ _ k.first k.second) k.third) (unless_from _ _ _ (lt-ltb _ _ k.few) refl)

  pub ok_final : (i : ℕ) → is_live before i ≡ true → refusal limit before (Finalization l i) ≡ None
  ok_final i k = unless_from _ _ _ k refl
