-- Lists of numbers.
use Rattle.std.specs.Prelude.{ℕ, Bool, List, ◌==◌, nat_lt}
use Rattle.std.specs.List.{list_any, list_all}

abbrev pub has : ℕ → List ℕ → Bool
has n = list_any (λ m. n == m)

-- n is above each of them
abbrev pub above_all : ℕ → List ℕ → Bool
above_all n = list_all (λ m. nat_lt m n)
