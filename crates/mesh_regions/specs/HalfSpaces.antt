-- Half spaces a·x + b·y + c·z ≤ d.
use Rattle.std.specs.Prelude.{Bool, ◌&&◌, ℤ, pos, negsuc, ◌+ℤ◌, ◌*ℤ◌, int_le}
use Rattle.mesh_stream.specs.declared.event.Point.{Point}

-- from -1,000 to 1,000
unfoldable pub factor_allowed : ℤ → Bool
factor_allowed a = int_le (negsuc 999) a && int_le a (pos 1000)

-- from -300,000,000 to 300,000,000
unfoldable pub limit_allowed : ℤ → Bool
limit_allowed d = int_le (negsuc 299999999) d && int_le d (pos 300000000)

abbrev pub half_space_allowed : ℤ → ℤ → ℤ → ℤ → Bool
half_space_allowed a b c d = factor_allowed a && factor_allowed b && factor_allowed c && limit_allowed d

-- a·x + b·y + c·z at a point
abbrev pub sum_at : ℤ → ℤ → ℤ → Point → ℤ
sum_at a b c at = a *ℤ at.x +ℤ b *ℤ at.y +ℤ c *ℤ at.z

-- The points of the half space, those on its plane included.
abbrev pub in_half_space : ℤ → ℤ → ℤ → ℤ → Point → Bool
in_half_space a b c d at = int_le (sum_at a b c at) d
