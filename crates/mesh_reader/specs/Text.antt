-- A text, its lines, and the words of a line.
use Rattle.std.specs.Prelude.{ℕ, Bool, true, false, cond, ◌||◌, List, [], ◌∷◌, length, filter, ◌==◌, nat_le}
use Rattle.std.specs.List.{slice_split}
use Rattle.mesh_stream.specs.Meaning.{Mark, unclosed, closed}

-- The pieces of a text between the bytes that separate them: one more than there are such bytes.
abbrev pub pieces : (ℕ → Bool) → List ℕ → List (List ℕ)
pieces = slice_split

abbrev pub some_bytes : List ℕ → Bool
some_bytes [] = false
some_bytes (b ∷ bs) = true

-- Blanks are the bytes 32, 9 and 13; the words of a line are what stands between them.
abbrev pub blank : ℕ → Bool
blank b = b == 32 || b == 9 || b == 13

abbrev pub words : List ℕ → List (List ℕ)
words line = filter some_bytes (pieces blank line)

-- Byte 10 ends a line.
abbrev pub line_end : ℕ → Bool
line_end b = b == 10

-- The lines of a text: the pieces before its line ends, and the last piece, which has none. On close that is a line if it has
-- a byte, and while the text is open only if 128 bytes of it are there, since then it is at fault however it goes on.
abbrev pub last_counts : Mark → List ℕ → Bool
last_counts closed rest = some_bytes rest
last_counts unclosed rest = nat_le 128 (length rest)

abbrev pub lines_in : Mark → List (List ℕ) → List (List ℕ)
lines_in mark [] = []
lines_in mark (rest ∷ []) = cond (last_counts mark rest) (rest ∷ []) []
lines_in mark (line ∷ (next ∷ more)) = line ∷ lines_in mark (next ∷ more)

abbrev pub lines : Mark → List ℕ → List (List ℕ)
lines mark text = lines_in mark (pieces line_end text)
