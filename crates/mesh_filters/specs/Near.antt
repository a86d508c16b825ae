-- Numbers whose products fit 64 bits.
use Rattle.std.specs.Prelude.{◌≤◌, ℤ, unsigned_abs}

-- At most 200,000 away from 0, as the difference of two coordinates is.
pub record Near (z : ℤ) : Type 0 where
  pub abs : unsigned_abs z ≤ 200000
