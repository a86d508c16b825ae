-- A reader in mid-text: what it means by the bytes that it keeps.
use Rattle.std.specs.Prelude.{◌≡◌, ℕ, suc, ◌-◌, ◌<◌, ◌≤◌, Bool, true, false, List, [], ◌++◌, length, drop, Some, None, Option, ◌≢◌, refl}
use Rattle.std.proofs.Common.{sym, ap, subst, ◌∙◌, append-nil, append_assoc, arith}
use Rattle.mesh_stream.specs.declared.event.Event.{Event}
use Rattle.mesh_stream.specs.Meaning.{Mark, unclosed, closed, outcome, Meaning, Port, open_for, shut, TakesText, Begins, Lawful}
use Rattle.mesh_reader.specs.declared.content.Line.{Line}
use Rattle.mesh_reader.specs.Reading.{reading_from, and_on, at_end, in_time, after_line, unread}
use Rattle.mesh_reader.specs.ReadingLaw.{reading_grows, reading_stops, reading_settles}

-- Before line `place` and vertex `vertex`: open, what comes stands behind the bytes kept; closed, these are all.
abbrev pub keeping : Bool → ℕ → ℕ → List ℕ → Meaning Event
keeping true place vertex kept t m = reading_from place vertex kept closed
keeping false place vertex kept t m = reading_from place vertex (kept ++ t) m

abbrev pub mark_at : Bool → Mark
mark_at true = closed
mark_at false = unclosed

-- The room is 4,096 less the bytes kept.
abbrev pub keeping_port : Bool → List ℕ → Port
keeping_port true kept = shut
keeping_port false kept = open_for (4096 - length kept)

pub keeping_lawful : (c : Bool) (place vertex : ℕ) (kept : List ℕ) → Lawful (keeping_port c kept) (keeping c place vertex kept)
keeping_lawful true place vertex kept = record {
  grows = λ t u m. ([], sym (append-nil (reading_from place vertex kept closed).items));
  settles = λ t. reading_settles place vertex kept;
  settled = λ n t m. refl;
  shut_fixed = λ e t m. refl;
}
keeping_lawful false place vertex kept = record {
  grows = λ t u m.
      subst (λ (xs : List ℕ). Begins (reading_from place vertex (kept ++ t) unclosed).items (reading_from place vertex xs m).items) (append_assoc kept t u)
      (reading_grows place vertex (kept ++ t) u m);
  settles = λ t. reading_settles place vertex (kept ++ t);
  settled = λ n t m.
      ap (λ (xs : List ℕ). reading_from place vertex (xs ++ t) m) (sym (append-nil kept)) ∙ reading_stops place vertex (kept ++ []) t m n;
  shut_fixed = λ e. absurd (never (4096 - length kept) e);
}
  where
    never : (n : ℕ) → open_for n ≢ shut
    never n e = let z : ◌≡◌ {A = ℕ} 0 1 = cc in omega arith

pub keeping_takes_text : (c : Bool) (kept : List ℕ) → TakesText (keeping_port c kept)
keeping_takes_text true kept = tt
keeping_takes_text false kept = tt

-- The line at the front takes up so many bytes and holds this; once it is taken, the rest of the text is read.
pub record FrontLine (c : Bool) (place vertex : ℕ) (kept : List ℕ) (line : Line) : Type 0 where
  pub some : 0 < line.length
  pub inside : line.length ≤ length kept
  pub reads : (t : List ℕ) (m : Mark) → keeping c place vertex kept t m ≡ and_on place vertex (in_time place line.content) (λ next. keeping c (suc place) next (drop line.length kept) t m)
  pub leaves : unread (mark_at c) place vertex kept ≡ after_line (in_time place line.content) kept (drop line.length kept) (unread (mark_at c) (suc place) vertex (drop line.length kept))

-- There is no complete line: the reader stands as the text does, and keeps what it has.
pub record NoLine (c : Bool) (place vertex : ℕ) (kept : List ℕ) : Type 0 where
  pub reads : keeping c place vertex kept [] unclosed ≡ outcome [] (at_end (mark_at c))
  pub leaves : unread (mark_at c) place vertex kept ≡ kept
  pub short : length kept < 128

abbrev pub Front : Bool → ℕ → ℕ → List ℕ → Option Line → Type 0
Front c place vertex kept None = NoLine c place vertex kept
Front c place vertex kept (Some line) = FrontLine c place vertex kept line
