-- Worked examples of reading: each text with its events and how it stands.
use Rattle.std.specs.Prelude.{◌≡◌, ℕ, List, [], ◌∷◌, ◌++◌, replicate, pos, negsuc, codes}
use Rattle.std.specs.List.{flat_map}
use Rattle.mesh_stream.specs.declared.event.Event.TheVariants.{Triangle, Finalization}
use Rattle.mesh_stream.specs.declared.fault.Cause.{Cause}
use Rattle.mesh_stream.specs.declared.fault.Cause.TheVariants.{LineTooLong, UnknownWord, WordCount, NotANumber, OutOfRange}
use Rattle.mesh_stream.specs.declared.stage.Standing.TheVariants.{Waiting, Ended}
use Rattle.mesh_stream.specs.Meaning.{unclosed, closed, outcome}
use Rattle.mesh_reader.specs.Reading.{vertex_event, fault, reading}

-- each line with its line end
abbrev pub as_lines : List (List ℕ) → List ℕ
as_lines = flat_map (λ line. line ++ (10 ∷ []))

-- one line that is at fault, read while more may come
abbrev pub AtFault : List ℕ → Cause → Type 0
AtFault line cause = reading (line ++ (10 ∷ [])) unclosed ≡ outcome [] (fault cause 1)

pub record WorkedExamples : Type 0 where
  -- nothing at all
  pub empty_open : reading [] unclosed ≡ outcome [] Waiting
  pub empty_closed : reading [] closed ≡ outcome [] Ended
  -- a line without line end counts on close only
  pub unfinished_open : reading (codes "v 1 2 3") unclosed ≡ outcome [] Waiting
  pub unfinished_closed : reading (codes "v 1 2 3") closed ≡ outcome (vertex_event 1 1 (pos 1) (pos 2) (pos 3) ∷ []) Ended
  -- comments and blank lines give nothing, and are counted as lines; a tab and a carriage return are blanks
  pub blanks : reading (as_lines (codes "# tile" ∷ [] ∷ ((9 ∷ codes "v 0  -10 5 ") ++ (13 ∷ [])) ∷ codes "f 1 1 1" ∷ codes "x 1" ∷ [])) closed
      ≡ outcome (vertex_event 3 1 (pos 0) (negsuc 9) (pos 5) ∷ Triangle 4 1 1 1 ∷ Finalization 5 1 ∷ []) Ended
  -- what stands before a fault is given, and what stands behind it is not read
  pub broken_off : reading (as_lines (codes "v 0 0 0" ∷ codes "v 1 2" ∷ codes "x 1" ∷ [])) closed ≡ outcome (vertex_event 1 1 (pos 0) (pos 0) (pos 0) ∷ []) (fault WordCount 2)
  -- 127 bytes and a line end are a line; 128 without one are at fault
  pub longest : reading (replicate 127 35 ++ (10 ∷ [])) closed ≡ outcome [] Ended
  pub too_long : reading (replicate 128 35) unclosed ≡ outcome [] (fault LineTooLong 1)
  -- the first word, then the number of words, then word by word from the left
  pub unknown : AtFault (codes "w 1 2") UnknownWord
  pub letter_and_more : AtFault (codes "v# 1 2 3") UnknownWord
  pub two_words : AtFault (codes "v 1 x") WordCount
  pub four_words : AtFault (codes "v 1 2 3 #c") WordCount
  pub first_form : AtFault (codes "v x 100001 0") NotANumber
  pub first_range : AtFault (codes "v 100001 x 0") OutOfRange
  pub lone_minus : AtFault (codes "v - 0 0") NotANumber
  pub plus : AtFault (codes "v +1 0 0") NotANumber
  pub ten_digits : AtFault (codes "v 0000000000 0 0") NotANumber
  pub signed_vertex : AtFault (codes "x -0") NotANumber
  pub vertex_zero : AtFault (codes "x 0") OutOfRange
  pub minus_zero : reading (as_lines (codes "v -0 -100000 100000" ∷ [])) unclosed ≡ outcome (vertex_event 1 1 (pos 0) (negsuc 99999) (pos 100000) ∷ []) Waiting
