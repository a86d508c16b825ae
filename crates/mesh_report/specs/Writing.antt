-- What a call writes into a buffer.
use Rattle.std.specs.Prelude.{◌≡◌, ℕ, ◌<◌, ◌≤◌, List, ◌++◌, length, drop, Ok, Err, Result}
use Rattle.mesh_stream.specs.declared.fault.Refusal.{Refusal}
use Rattle.mesh_stream.specs.declared.fault.Refusal.TheVariants.{BufferTooSmall}
use Rattle.mesh_stream.specs.Numbers.{refusal_number}

-- The bytes stand in front, k of them, and every byte behind them is as it was.
pub record Written (bytes before : List ℕ) (k : ℕ) (after : List ℕ) : Type 0 where
  pub count : k ≡ length bytes
  pub bytes_then_rest : after ≡ bytes ++ drop k before

-- A buffer of 256 bytes or more takes the text whole, which never has more.
pub record Spelled (text before : List ℕ) (k : ℕ) (after : List ℕ) : Type 0 where
  pub enough : 256 ≤ length before
  pub suffices : k ≤ 256
  pub written : Written text before k after

-- A smaller one is refused and untouched.
pub record TooSmall (before : List ℕ) (e : Refusal) (after : List ℕ) : Type 0 where
  pub small : length before < 256
  pub reason : e ≡ BufferTooSmall
  pub number : refusal_number e ≡ 16
  pub untouched : after ≡ before

abbrev pub SpelledInto : List ℕ → List ℕ → Result ℕ Refusal → List ℕ → Type 0
SpelledInto text before (Ok k) after = Spelled text before k after
SpelledInto text before (Err e) after = TooSmall before e after
