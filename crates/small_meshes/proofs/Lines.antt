-- A text of one line: how long it may be.
use Rattle.std.proofs.Common.{◌≡◌, ℕ, false, cond, List, [], ◌∷◌, ◌++◌, length, Err, nat_le, eqb, refl, ap, ◌∙◌, arith}
use Rattle.std.specs.List.{onto_first}
use Rattle.std.proofs.lemmas.Bool.{or_parts, le-leb}
use Rattle.mesh_stream.specs.declared.fault.Cause.TheVariants.{LineTooLong}
use Rattle.mesh_stream.specs.declared.fault.LayerName.TheVariants.{Reader}
use Rattle.mesh_stream.specs.declared.stage.Standing.TheVariants.{Waiting}
use Rattle.mesh_stream.specs.Lists.{has}
use Rattle.mesh_stream.specs.Meaning.{Mark, unclosed, closed, outcome}
use Rattle.mesh_stream.proofs.Distinct.{eqb_comm}
use Rattle.mesh_judge.specs.Accepting.{fault}
use Rattle.mesh_reader.specs.Text.{pieces, words, line_end, lines_in}
use Rattle.mesh_reader.specs.Reading.{by_words, and_on, at_end, in_time, read_lines, reading}
use Rattle.mesh_reader.specs.ReadingLaw.{first_piece_long}

-- A byte that ends no line stands at the front of the first piece.
onto : (b : ℕ) (ps : List (List ℕ)) → eqb 10 b ≡ false → cond (line_end b) ([] ∷ ps) (onto_first b ps) ≡ onto_first b ps
onto b ps h = ap (λ e. cond e ([] ∷ ps) (onto_first b ps)) (eqb_comm 10 b h)

one_piece : (line : List ℕ) → has 10 line ≡ false → pieces line_end line ≡ line ∷ []
one_piece [] h = refl
one_piece (b ∷ bs) h =
    let (e, k) = or_parts (eqb 10 b) (has 10 bs) h in
    onto b (pieces line_end bs) e ∙ ap (onto_first b) (one_piece bs k)

line_and_rest : (line : List ℕ) → has 10 line ≡ false → pieces line_end (line ++ (10 ∷ [])) ≡ line ∷ ([] ∷ [])
line_and_rest [] h = refl
line_and_rest (b ∷ bs) h =
    let (e, k) = or_parts (eqb 10 b) (has 10 bs) h in
    onto b (pieces line_end (bs ++ (10 ∷ []))) e ∙ ap (onto_first b) (line_and_rest bs k)

pub too_long : (line : List ℕ) → length line ≡ 128 → has 10 line ≡ false → reading line unclosed ≡ outcome [] (fault Reader LineTooLong 1)
too_long line long h =
    ap (λ (ps : List (List ℕ)). read_lines 1 1 (lines_in unclosed ps) Waiting) (one_piece line h)
    ∙ first_piece_long unclosed Waiting 1 1 line [] (le-leb 128 (length line) (omega arith))

-- The line end leaves no bytes behind it, and so no line.
one_line : (m : Mark) (line : List ℕ) → lines_in m (line ∷ ([] ∷ [])) ≡ line ∷ []
one_line unclosed line = refl
one_line closed line = refl

pub longest_line : (line : List ℕ) (m : Mark) → length line ≡ 127 → has 10 line ≡ false
    → reading (line ++ (10 ∷ [])) m ≡ and_on 1 1 (by_words 1 1 (words line)) (λ next. outcome [] (at_end m))
longest_line line m long h =
    ap (λ (ps : List (List ℕ)). read_lines 1 1 (lines_in m ps) (at_end m)) (line_and_rest line h)
    ∙ ap (λ (ls : List (List ℕ)). read_lines 1 1 ls (at_end m)) (one_line m line)
    ∙ ap (λ (n : ℕ). and_on 1 1 (in_time 1 (cond (nat_le 128 n) (Err LineTooLong) (by_words 1 1 (words line))))
    (λ next. outcome [] (at_end m))) long
