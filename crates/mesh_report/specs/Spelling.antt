-- How a report is spelled.
use Rattle.std.specs.Prelude.{ℕ, zero, suc, ◌+◌, ◌/◌, ◌%◌, true, false, List, [], ◌∷◌, ◌++◌, ℤ, pos, negsuc, codes, ◌==◌, unsigned_abs}
use Rattle.mesh_stream.specs.declared.fault.Fault.{Fault}
use Rattle.mesh_stream.specs.declared.stage.Standing.{Standing}
use Rattle.mesh_stream.specs.declared.stage.Standing.TheVariants.{Waiting, Ended, Faulty}
use Rattle.mesh_stream.specs.Numbers.{cause_number, layer_word}
use Rattle.mesh_report.specs.declared.totals.Totals.{Totals}

-- A whole number is the spelling of its quotient by ten, if that is not zero, then its last digit.
-- (`turns` bounds the digits: a number has no more than itself and one.)
abbrev pub spelled_in : ℕ → ℕ → List ℕ
spelled_in zero n = []
spelled_in (suc turns) n =
    (elim (n / 10 == 0) as (λ b. List ℕ) [ true ↦ [] | false ↦ spelled_in turns (n / 10) ]) ++ ((48 + n % 10) ∷ [])

unfoldable pub spelled : ℕ → List ℕ
spelled n = spelled_in (suc n) n

-- A minus, the byte 45, precedes a negative one.
abbrev pub sign : ℤ → List ℕ
sign (pos n) = []
sign (negsuc n) = 45 ∷ []

abbrev pub spelled_signed : ℤ → List ℕ
spelled_signed z = sign z ++ spelled (unsigned_abs z)

-- A word, then a number.
unfoldable pub entry : List ℕ → ℤ → List ℕ
entry word z = word ++ spelled_signed z

-- A blank, then a number.
unfoldable pub next_number : ℕ → List ℕ
next_number n = codes " " ++ spelled n

-- `fault LAYER CAUSE PLACE`
abbrev pub fault_line : Fault → List ℕ
fault_line f = codes "fault " ++ (layer_word f.layer ++ (next_number (cause_number f.cause) ++ next_number f.place))

-- The stream waits, or ended, or is at fault.
abbrev pub last_line : Standing → List ℕ
last_line Waiting = codes "end open"
last_line Ended = codes "end ok"
last_line (Faulty f) = fault_line f

-- A line is ended by byte 10.
abbrev pub as_line : List ℕ → List ℕ
as_line line = line ++ (10 ∷ [])

abbrev pub as_lines : List (List ℕ) → List ℕ
as_lines [] = []
as_lines (l ∷ ls) = as_line l ++ as_lines ls

-- What each line of the totals says: a word and a number.
abbrev pub entries_of : Totals → List (List ℕ × ℤ)
entries_of t =
    (codes "vertices ", pos t.vertices)
    ∷ (codes "triangles ", pos t.triangles)
    ∷ (codes "finalized ", pos t.finalized)
    ∷ (codes "width ", pos t.width)
    ∷ (codes "area ", t.area)
    ∷ []

abbrev pub entry_lines : List (List ℕ × ℤ) → List ℕ
entry_lines [] = []
entry_lines ((word, z) ∷ es) = as_line (entry word z) ++ entry_lines es

abbrev pub report_text : Totals → Standing → List ℕ
report_text t s = as_lines (
    entry (codes "vertices ") (pos t.vertices)
    ∷ entry (codes "triangles ") (pos t.triangles)
    ∷ entry (codes "finalized ") (pos t.finalized)
    ∷ entry (codes "width ") (pos t.width)
    ∷ entry (codes "area ") t.area
    ∷ last_line s
    ∷ [])
