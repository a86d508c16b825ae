-- The coordinates and the vertex numbers that are in range.
use Rattle.std.specs.Prelude.{ℕ, Bool, ◌&&◌, ℤ, pos, negsuc, int_le, nat_le}
use Rattle.mesh_stream.specs.declared.event.Point.{Point}

-- from -100,000 to 100,000
abbrev pub coordinate : ℤ → Bool
coordinate z = int_le (negsuc 99999) z && int_le z (pos 100000)

abbrev pub in_space : Point → Bool
in_space at = coordinate at.x && coordinate at.y && coordinate at.z

abbrev pub vertex_number : ℕ → Bool
vertex_number n = nat_le 1 n && nat_le n 100000000
