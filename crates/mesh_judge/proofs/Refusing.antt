-- What it says of an event of each kind that it is accepted.
use Rattle.std.proofs.Common.{◌≡◌, ℕ, ◌<◌, Bool, true, false, ◌&&◌, List, length, None, Option, sym, refl}
use Rattle.std.proofs.lemmas.Option.{none-some}
use Rattle.std.proofs.lemmas.Bool.{and_parts, ltb-true}
use Rattle.mesh_stream.specs.declared.event.Point.{Point}
use Rattle.mesh_stream.specs.declared.event.Event.{Event}
use Rattle.mesh_stream.specs.declared.event.Event.TheVariants.{Vertex, Triangle, Finalization}
use Rattle.mesh_stream.specs.declared.fault.Cause.{Cause}
use Rattle.mesh_stream.specs.Lists.{above_all}
use Rattle.mesh_stream.specs.Events.{introduced, triangles}
use Rattle.mesh_stream.specs.Live.{live, is_live}
use Rattle.mesh_stream.specs.Ranges.{in_space, vertex_number}
use Rattle.mesh_judge.specs.Accepting.{unless, refusal}

pub unless_none : (b : Bool) (c : Cause) (o : Option Cause) → unless b c o ≡ None → (b ≡ true) × (o ≡ None)
unless_none true c o e = (refl, e)
unless_none false c o e = absurd (none-some c (sym e))

pub record VertexOk (limit : ℕ) (before : List Event) (n : ℕ) (v : Point) : Type 0 where
  pub in_range : (in_space v && vertex_number n) ≡ true
  pub above : above_all n (introduced before) ≡ true
  pub room : length (live before) < limit

pub record TriangleOk (before : List Event) (a b c : ℕ) : Type 0 where
  pub first : is_live before a ≡ true
  pub second : is_live before b ≡ true
  pub third : is_live before c ≡ true
  pub few : triangles before < 100000000

module _ (limit : ℕ) (before : List Event) (l : ℕ) where
  pub vertex_ok : (n : ℕ) (v : Point) → refusal limit before (Vertex l n v) ≡ None → VertexOk limit before n v
  vertex_ok n v h =
      let u = unless_none _ _ _ h in
      let w = unless_none _ _ _ u.1 in
      record { in_range = u.0; above = w.0; room = ltb-true _ _ (unless_none _ _ _ w.1).0 }

  pub triangle_ok : (a b c : ℕ) → refusal limit before (Triangle l a b c) ≡ None → TriangleOk before a b c
  triangle_ok a b c h =
      let u = unless_none _ _ _ h in
      let w = unless_none _ _ _ u.1 in
      let s = and_parts (is_live before a && is_live before b) (is_live before c) u.0 in
      let t = and_parts (is_live before a) (is_live before b) s.0 in
      record { first = t.0; second = t.1; third = s.1; few = ltb-true _ _ w.0 }

  pub final_ok : (i : ℕ) → refusal limit before (Finalization l i) ≡ None → is_live before i ≡ true
  final_ok i h = (unless_none _ _ _ h).0
