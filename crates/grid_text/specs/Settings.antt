-- The settings that the words of a command line spell.
use Rattle.std.specs.Prelude.{◌≡◌, ℕ, ◌<◌, ◌^◌, ⊤, List, Option, MatchOption, String, string_bytes, slice_get}
use Rattle.std.specs.Str.Parse.{IsNumeral, digits_value, without_leading_plus}
use Rattle.grid_text.specs.GridText.{GridWritten}

-- The bytes are decimal digits, with a plus before them or none, and they write n.
abbrev pub Spells : List ℕ → ℕ → Type 0
Spells bs n = IsNumeral 10 (without_leading_plus bs) × (n ≡ digits_value 10 (without_leading_plus bs))

-- The word at this place spells n; where there is no such word, n is 0.
abbrev pub IsSetting : {Z : Type 0} → List (String Z) → ℕ → ℕ → Type 0
IsSetting words place n = MatchOption (slice_get words place) (n ≡ 0) (λ word. Spells (string_bytes word) n)

-- The word at this place, if there is one, spells a number that 32 bits hold.
abbrev pub HasSetting : {Z : Type 0} → List (String Z) → ℕ → Type 0
HasSetting words place = MatchOption (slice_get words place) ⊤ (λ word. (n : ℕ) × (n < 2 ^ 32) × Spells (string_bytes word) n)

-- The grid was written whose columns, rows and step are the words after the program's name.
pub record GridOfWordsWritten {Z : Type 0} (words : List (String Z)) (old new : Option (List ℕ)) : Type 0 where
  pub columns : ℕ
  pub rows : ℕ
  pub step : ℕ
  pub columns_are : IsSetting words 1 columns
  pub rows_are : IsSetting words 2 rows
  pub step_is : IsSetting words 3 step
  pub written : GridWritten columns rows step old new
