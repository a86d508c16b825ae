-- Reading a mesh text: which events it gives, and how it stands then.
use Rattle.std.specs.Prelude.{ℕ, suc, Bool, true, false, cond, List, [], ◌∷◌, map, length, ℤ, Some, None, Ok, Err, Option, Result, ◌==◌, nat_le, nat_lt}
use Rattle.std.specs.List.{join_with_byte}
use Rattle.mesh_stream.specs.declared.event.Event.{Event}
use Rattle.mesh_stream.specs.declared.event.Event.TheVariants.{Vertex, Triangle, Finalization}
use Rattle.mesh_stream.specs.declared.fault.Cause.{Cause}
use Rattle.mesh_stream.specs.declared.fault.Cause.TheVariants.{LineTooLong, UnknownWord, WordCount, TooManyLines}
use Rattle.mesh_stream.specs.declared.fault.LayerName.TheVariants.{Reader}
use Rattle.mesh_stream.specs.declared.stage.Standing.{Standing}
use Rattle.mesh_stream.specs.declared.stage.Standing.TheVariants.{Waiting, Ended, Faulty}
use Rattle.mesh_stream.specs.Meaning.{Mark, unclosed, closed, Outcome, outcome, prepend, Meaning}
use Rattle.mesh_reader.specs.declared.numeral.Numeral.{Numeral}
use Rattle.mesh_reader.specs.declared.content.FirstWord.{FirstWord}
use Rattle.mesh_reader.specs.declared.content.FirstWord.TheVariants.{Missing, Comment, Letter, Other}
use Rattle.mesh_reader.specs.Text.{pieces, some_bytes, words, line_end, lines}
use Rattle.mesh_reader.specs.Numerals.{numeral, coordinate_of, vertex_of}

-- Word by word from the left each number is read, and the first that cannot be is the fault.
abbrev pub then : {A B : Type 0} → Result A Cause → (A → Result B Cause) → Result B Cause
then (Ok v) next = next v
then (Err c) next = Err c

-- all of a list, if it has just so many elements
abbrev pub exactly : {A : Type 0} → ℕ → List A → Option (List A)
exactly n xs = cond (length xs == n) (Some xs) None

abbrev pub of_three : {A B : Type 0} → (Option Numeral → Result A Cause) → (A → A → A → B) → Option (List (Option Numeral)) → Result B Cause
of_three read make (Some (a ∷ (b ∷ (c ∷ [])))) = then (read a) λ i. then (read b) λ j. then (read c) λ k. Ok (make i j k)
of_three read make _ = Err WordCount

abbrev pub of_one : {A : Type 0} → (Option Numeral → Result A Cause) → (A → Event) → Option (List (Option Numeral)) → Result Event Cause
of_one read make (Some (a ∷ [])) = then (read a) λ i. Ok (make i)
of_one read make _ = Err WordCount

-- A # is the byte 35.
abbrev pub by_first_byte : Bool → ℕ → List ℕ → FirstWord
by_first_byte true b bs = Comment
by_first_byte false b [] = Letter b
by_first_byte false b (c ∷ bs) = Other

abbrev pub kind_of : List ℕ → FirstWord
kind_of [] = Missing
kind_of (b ∷ bs) = by_first_byte (b == 35) b bs

abbrev pub first_word : List (List ℕ) → FirstWord
first_word [] = Missing
first_word (w ∷ ws) = kind_of w

abbrev pub behind_first : List (List ℕ) → List (List ℕ)
behind_first [] = []
behind_first (w ∷ ws) = ws

abbrev pub vertex_event : ℕ → ℕ → ℤ → ℤ → ℤ → Event
vertex_event place vertex x y z = Vertex place vertex (record { x = x; y = y; z = z })

-- What a line holds: no event, an event, or a fault.
abbrev pub LineContent : Type 0
LineContent = Result (Option Event) Cause

-- The first word is one of the letters v, f and x, the bytes 118, 102 and 120, or starts with #. Behind v follow three
-- coordinates, behind f three vertex numbers, behind x one.
abbrev pub by_letter : ℕ → ℕ → ℕ → List (Option Numeral) → Result Event Cause
by_letter place vertex b ns =
    cond (b == 118) (of_three coordinate_of (vertex_event place vertex) (exactly 3 ns))
    (cond (b == 102) (of_three vertex_of (Triangle place) (exactly 3 ns))
    (cond (b == 120) (of_one vertex_of (Finalization place) (exactly 1 ns))
    (Err UnknownWord)))

abbrev pub by_kind : ℕ → ℕ → FirstWord → List (Option Numeral) → LineContent
by_kind place vertex Missing ns = Ok None
by_kind place vertex Comment ns = Ok None
by_kind place vertex (Letter b) ns = then (by_letter place vertex b ns) λ e. Ok (Some e)
by_kind place vertex Other ns = Err UnknownWord

abbrev pub by_words : ℕ → ℕ → List (List ℕ) → LineContent
by_words place vertex ws = by_kind place vertex (first_word ws) (map numeral (behind_first ws))

-- A text has at most 1,000,000,000 lines.
abbrev pub in_time : ℕ → LineContent → LineContent
in_time place content = cond (nat_lt 1000000000 place) (Err TooManyLines) content

-- What a line holds, its number from 1 being `place`, and the number of the next vertex `vertex`.
abbrev pub line_content : ℕ → ℕ → List ℕ → LineContent
line_content place vertex line = in_time place (cond (nat_le 128 (length line)) (Err LineTooLong) (by_words place vertex (words line)))

-- The v lines are numbered 1, 2, 3 and so on.
abbrev pub vertex_after : ℕ → Event → ℕ
vertex_after vertex (Vertex p n at) = suc vertex
vertex_after vertex (Triangle p a b c) = vertex
vertex_after vertex (Finalization p i) = vertex

abbrev pub fault : Cause → ℕ → Standing
fault c place = Faulty (record { layer = Reader; cause = c; place = place })

-- Line by line, until one is at fault.
abbrev pub and_on : ℕ → ℕ → LineContent → (ℕ → Outcome Event) → Outcome Event
and_on place vertex (Ok None) later = later vertex
and_on place vertex (Ok (Some e)) later = prepend e (later (vertex_after vertex e))
and_on place vertex (Err c) later = outcome [] (fault c place)

abbrev pub read_lines : ℕ → ℕ → List (List ℕ) → Standing → Outcome Event
read_lines place vertex [] end = outcome [] end
read_lines place vertex (line ∷ more) end =
    and_on place vertex (line_content place vertex line) λ next. read_lines (suc place) next more end

abbrev pub at_end : Mark → Standing
at_end closed = Ended
at_end unclosed = Waiting

-- A text read from the line `place` on, the next vertex being `vertex`.
abbrev pub reading_from : ℕ → ℕ → Meaning Event
reading_from place vertex text mark = read_lines place vertex (lines mark text) (at_end mark)

-- The meaning of a new reader: the whole text, from line 1 on, its first vertex being 1.
abbrev pub reading : Meaning Event
reading = reading_from 1 1

-- What one next leaves unread of the bytes kept: it reads and drops complete lines, through the first with an event; a faulty
-- line and all behind it are kept, and so is an incomplete line at the end.
abbrev pub rejoined : List (List ℕ) → List ℕ
rejoined = join_with_byte 10

abbrev pub after_line : LineContent → List ℕ → List ℕ → List ℕ → List ℕ
after_line (Ok None) all behind later = later
after_line (Ok (Some e)) all behind later = behind
after_line (Err c) all behind later = all

abbrev pub unread_pieces : Mark → ℕ → ℕ → List (List ℕ) → List ℕ
unread_pieces mark place vertex [] = []
unread_pieces unclosed place vertex (rest ∷ []) = rest
unread_pieces closed place vertex (rest ∷ []) = cond (some_bytes rest) (after_line (line_content place vertex rest) rest [] []) []
unread_pieces mark place vertex (line ∷ (next ∷ more)) =
    after_line (line_content place vertex line) (rejoined (line ∷ (next ∷ more))) (rejoined (next ∷ more)) (unread_pieces mark (suc place) vertex (next ∷ more))

abbrev pub unread : Mark → ℕ → ℕ → List ℕ → List ℕ
unread mark place vertex kept = unread_pieces mark place vertex (pieces line_end kept)
