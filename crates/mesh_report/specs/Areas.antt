-- The area of a list of events.
use Rattle.std.specs.Prelude.{ℕ, ◌≤◌, List, [], ◌∷◌, ℤ, pos, ◌+ℤ◌, ◌-ℤ◌, ◌*ℤ◌, unsigned_abs}
use Rattle.mesh_stream.specs.declared.event.Point.{Point}
use Rattle.mesh_stream.specs.declared.event.Event.{Event}
use Rattle.mesh_stream.specs.declared.event.Event.TheVariants.{Vertex, Triangle, Finalization}
use Rattle.mesh_stream.specs.Events.{point}

-- (xp − xa) × (yq − ya)
unfoldable pub rectangle : Point → Point → Point → ℤ
rectangle a p q = (p.x -ℤ a.x) *ℤ (q.y -ℤ a.y)

-- (xb − xa) × (yc − ya) − (xc − xa) × (yb − ya)
abbrev pub twice_area : Point → Point → Point → ℤ
twice_area a b c = rectangle a b c -ℤ rectangle a c b

-- the sum of these over the triangles of a list, `at` saying where each vertex stands
abbrev pub area_by : (ℕ → Point) → List Event → ℤ
area_by at [] = pos 0
area_by at (Vertex p n v ∷ es) = area_by at es
area_by at (Triangle p a b c ∷ es) = twice_area (at a) (at b) (at c) +ℤ area_by at es
area_by at (Finalization p i ∷ es) = area_by at es

abbrev pub area : List Event → ℤ
area es = area_by (point es) es

-- at most m away from 0
pub record Within (m : ℕ) (z : ℤ) : Type 0 where
  pub abs : unsigned_abs z ≤ m
