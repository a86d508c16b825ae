-- A line as it is gone through from left to right: each list of bytes is what is left of the text from some place of the line on.
use Rattle.std.specs.Prelude.{◌≡◌, ℕ, zero, suc, ◌+◌, ◌-◌, ◌*◌, Bool, true, false, cond, ◌||◌, not, List, [], ◌∷◌, ◌++◌, map, Some, None, Option}
use Rattle.mesh_reader.specs.declared.numeral.Numeral.{Numeral}
use Rattle.mesh_reader.specs.Text.{blank, line_end, words}
use Rattle.mesh_reader.specs.Numerals.{digit, has_minus, numeral}

abbrev pub separates : ℕ → Bool
separates b = blank b || line_end b

abbrev pub in_word : ℕ → Bool
in_word b = not (separates b)

-- the front of a list up to the first element of a kind, and what is left from there on
abbrev pub front : (ℕ → Bool) → List ℕ → List ℕ
front stops [] = []
front stops (b ∷ bs) = cond (stops b) [] (b ∷ front stops bs)

abbrev pub behind : (ℕ → Bool) → List ℕ → List ℕ
behind stops [] = []
behind stops (b ∷ bs) = cond (stops b) (b ∷ bs) (behind stops bs)

abbrev pub past_blanks : List ℕ → List ℕ
past_blanks = behind (λ b. not (blank b))

-- each call of a test answers whether the byte is of the kind
abbrev pub IsTest : (ℕ → Bool → Type 0) → (ℕ → Bool) → Type 0
IsTest post kind = (b : ℕ) (r : Bool) → post b r → r ≡ kind b

-- no word goes on here
abbrev pub at_word_end : List ℕ → Bool
at_word_end [] = true
at_word_end (b ∷ bs) = separates b

-- the words that are left of the line, and these as numerals
abbrev pub rest_words : List ℕ → List (List ℕ)
rest_words bytes = words (front line_end bytes)

abbrev pub rest_numerals : List ℕ → List (Option Numeral)
rest_numerals bytes = map numeral (rest_words bytes)

-- On from one place of the line to another: what is left is a later part of what was left, and what stands behind the line stays.
pub record SameLine (old new : List ℕ) : Type 0 where
  pub passed : List ℕ
  pub later : old ≡ passed ++ new
  pub stays : behind line_end new ≡ behind line_end old

-- The next byte is of a kind.
abbrev pub begins : (ℕ → Bool) → List ℕ → Bool
begins kind [] = false
begins kind (b ∷ bs) = kind b

-- the next byte, if it is of a kind, and what is left then
abbrev pub NextIf : (ℕ → Bool) → List ℕ → Option ℕ → List ℕ → Type 0
NextIf kind old None new = (begins kind old ≡ false) × (new ≡ old)
NextIf kind old (Some b) new = (kind b ≡ true) × (old ≡ b ∷ new)

-- whether a minus is next, which is then passed
abbrev pub NextMinus : List ℕ → Bool → List ℕ → Type 0
NextMinus old true new = old ≡ 45 ∷ new
NextMinus old false new = (has_minus old ≡ false) × (new ≡ old)

-- the next word of the line as a numeral, if there is one
abbrev pub Next : List ℕ → Option (Option Numeral) → List ℕ → Type 0
Next old None new = rest_numerals old ≡ []
Next old (Some n) new = rest_numerals old ≡ n ∷ rest_numerals new

-- at most n leading digits behind those that said `high`: the number that they say, and what follows them
abbrev pub leading : ℕ → ℕ → List ℕ → ℕ × List ℕ
leading zero high bs = (high, bs)
leading (suc n) high [] = (high, [])
leading (suc n) high (b ∷ bs) = cond (digit b) (leading n (10 * high + (b - 48)) bs) (high, b ∷ bs)
