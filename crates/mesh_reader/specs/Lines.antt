-- The first word of a line, and what is left of the line behind it; how other words are read.
use Rattle.std.specs.Prelude.{◌≡◌, ℕ, List, Option, Result}
use Rattle.mesh_stream.specs.declared.fault.Cause.{Cause}
use Rattle.mesh_reader.specs.declared.numeral.Numeral.{Numeral}
use Rattle.mesh_reader.specs.declared.content.FirstWord.{FirstWord}
use Rattle.mesh_reader.specs.declared.content.FirstWord.TheVariants.{Missing, Comment, Letter, Other}
use Rattle.mesh_reader.specs.Scanning.{rest_words, SameLine}
use Rattle.mesh_reader.specs.Reading.{first_word, behind_first}

-- Behind a letter stand the other words. What stands behind any other first word does not matter.
abbrev pub LeftBehind : FirstWord → List ℕ → List ℕ → Type 0
LeftBehind Missing old new = Unit {0}
LeftBehind Comment old new = Unit {0}
LeftBehind (Letter b) old new = behind_first (rest_words old) ≡ rest_words new
LeftBehind Other old new = Unit {0}

pub record Begun (old : List ℕ) (word : FirstWord) (new : List ℕ) : Type 0 where
  pub same : SameLine old new
  pub is : word ≡ first_word (rest_words old)
  pub left : LeftBehind word old new

-- each call reads a word by this rule
abbrev pub IsReading : {A : Type 0} → (Option Numeral → Result A Cause → Type 0) → (Option Numeral → Result A Cause) → Type 0
IsReading {A} post rule = (w : Option Numeral) (r : Result A Cause) → post w r → r ≡ rule w

abbrev pub tuple : {A : Type 0} → A → A → A → A × A × A
tuple a b c = (a, b, c)
