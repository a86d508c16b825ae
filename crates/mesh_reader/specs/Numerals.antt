-- The numbers of a line: their form, and then their range.
use Rattle.std.specs.Prelude.{ℕ, ◌+◌, ◌-◌, ◌*◌, Bool, true, false, cond, ◌&&◌, List, [], ◌∷◌, length, ℤ, pos, neg_ℤ, Some, None, Ok, Err, Option, Result, ◌==◌, nat_le}
use Rattle.mesh_stream.specs.declared.fault.Cause.{Cause}
use Rattle.mesh_stream.specs.declared.fault.Cause.TheVariants.{NotANumber, OutOfRange}
use Rattle.mesh_stream.specs.Ranges.{coordinate, vertex_number}
use Rattle.mesh_reader.specs.declared.numeral.Numeral.{Numeral}
use Rattle.mesh_reader.specs.Text.{some_bytes}

-- 0 to 9 are the bytes 48 to 57
abbrev pub digit : ℕ → Bool
digit b = nat_le 48 b && nat_le b 57

abbrev pub all_digits : List ℕ → Bool
all_digits [] = true
all_digits (b ∷ bs) = digit b && all_digits bs

-- the number that digits say behind those that said `high`
abbrev pub value : ℕ → List ℕ → ℕ
value high [] = high
value high (b ∷ bs) = value (10 * high + (b - 48)) bs

-- 1 to 9 digits say a number, and nothing else does.
abbrev pub magnitude : List ℕ → Option ℕ
magnitude bs = cond (some_bytes bs && (nat_le (length bs) 9 && all_digits bs)) (Some (value 0 bs)) None

-- A minus is the byte 45.
abbrev pub has_minus : List ℕ → Bool
has_minus [] = false
has_minus (b ∷ bs) = b == 45

abbrev pub without_minus : List ℕ → List ℕ
without_minus [] = []
without_minus (b ∷ bs) = cond (b == 45) bs (b ∷ bs)

abbrev pub with_sign : Bool → Option ℕ → Option Numeral
with_sign minus None = None
with_sign minus (Some n) = Some (record { minus = minus; size = n })

-- A numeral is an optional minus and 1 to 9 digits.
abbrev pub numeral : List ℕ → Option Numeral
numeral word = with_sign (has_minus word) (magnitude (without_minus word))

abbrev pub in_range : {A : Type 0} → Bool → A → Result A Cause
in_range true v = Ok v
in_range false v = Err OutOfRange

abbrev pub signed : Bool → ℕ → ℤ
signed true n = neg_ℤ (pos n)
signed false n = pos n

-- A coordinate is a numeral.
abbrev pub coordinate_of : Option Numeral → Result ℤ Cause
coordinate_of None = Err NotANumber
coordinate_of (Some n) = in_range (coordinate (signed n.minus n.size)) (signed n.minus n.size)

-- A vertex number is one without sign.
abbrev pub vertex_of : Option Numeral → Result ℕ Cause
vertex_of None = Err NotANumber
vertex_of (Some n) = cond n.minus (Err NotANumber) (in_range (vertex_number n.size) n.size)
