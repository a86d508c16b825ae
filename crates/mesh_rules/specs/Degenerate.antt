-- Degenerate triangles.
use Rattle.std.specs.Prelude.{Bool, false, ◌&&◌, ℤ, pos, negsuc, ◌-ℤ◌, ◌*ℤ◌, ◌==◌}
use Rattle.mesh_stream.specs.declared.event.Point.{Point}

-- from one point to another
pub record Vector : Type 0 where
  pub x : ℤ
  pub y : ℤ
  pub z : ℤ

abbrev pub from_to : Point → Point → Vector
from_to a b = record { x = b.x -ℤ a.x; y = b.y -ℤ a.y; z = b.z -ℤ a.z }

abbrev pub cross : Vector → Vector → Vector
cross u v = record {
  x = (u.y *ℤ v.z) -ℤ (u.z *ℤ v.y);
  y = (u.z *ℤ v.x) -ℤ (u.x *ℤ v.z);
  z = (u.x *ℤ v.y) -ℤ (u.y *ℤ v.x);
}

abbrev pub is_zero : ℤ → Bool
is_zero (pos n) = n == 0
is_zero (negsuc n) = false

abbrev pub is_zero_vector : Vector → Bool
is_zero_vector v = is_zero v.x && is_zero v.y && is_zero v.z

-- Whether the cross product of b − a and c − a is the zero vector.
abbrev pub degenerate : Point → Point → Point → Bool
degenerate a b c = is_zero_vector (cross (from_to a b) (from_to a c))
