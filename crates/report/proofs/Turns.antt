-- How many turns the loop over a text can take.
use Rattle.std.proofs.Common.{◌≡◌, ℕ, ◌+◌, ◌≤◌, List, length, Option, Some, None, ap, ◌∙◌, length-append, arith}
use Rattle.std.specs.Io.KnownBytes.{Consumes}

-- Each turn has read a byte of the text at least.
abbrev pub TurnsOf : Option (List ℕ) → Option (List ℕ) → ℕ → Type 0
TurnsOf None left i = Unit {0}
TurnsOf (Some text) None i = ⊥
TurnsOf (Some text) (Some rest) i = length rest + i ≤ length text

pub no_turn : (known : Option (List ℕ)) → TurnsOf known known 0
no_turn None = tt
no_turn (Some text) = omega arith

pub turn_more : (known left next : Option (List ℕ)) (bs : List ℕ) (i : ℕ) → TurnsOf known left i → Consumes left next bs → 1 ≤ length bs
    → TurnsOf known next (i + 1)
turn_more None left next bs i turns e some = tt
turn_more (Some text) None next bs i turns e some = absurd turns
turn_more (Some text) (Some rest) None bs i turns e some = absurd e
turn_more (Some text) (Some rest) (Some more) bs i turns e some =
    let bytes : length rest ≡ length bs + length more = ap length e ∙ length-append bs more in
    omega arith
