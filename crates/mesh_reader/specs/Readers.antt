-- The text reader by its fields.
use Rattle.std.specs.Prelude.{◌≡◌, ℕ, ◌<◌, Bool, true, false, List, ◌++◌, length, take, Some, None, Ok, Err, Option, Result}
use Rattle.mesh_stream.specs.declared.event.Event.{Event}
use Rattle.mesh_stream.specs.declared.fault.Refusal.{Refusal}
use Rattle.mesh_stream.specs.declared.fault.Refusal.TheVariants.{InletClosed}
use Rattle.mesh_stream.specs.declared.stage.Standing.{Standing}
use Rattle.mesh_stream.specs.Meaning.{Meaning, Port, TakesText, Same, Lawful}
use Rattle.mesh_stream.specs.Calls.{SameKind, Nexted}
use Rattle.mesh_reader.specs.declared.reader.TextReader.{TextReader}
use Rattle.mesh_reader.specs.Reading.{unread}
use Rattle.mesh_reader.specs.Keeping.{keeping, keeping_port, keeping_lawful, keeping_takes_text, mark_at}

-- the bytes that it took and has not read yet
abbrev pub kept : TextReader → List ℕ
kept r = r.kept

abbrev pub reader_means : TextReader → Meaning Event
reader_means r = keeping r.closed r.next.line r.next.vertex (kept r)

abbrev pub reader_port : TextReader → Port
reader_port r = keeping_port r.closed (kept r)

pub reader_lawful : (r : TextReader) → Lawful (reader_port r) (reader_means r)
reader_lawful r = keeping_lawful r.closed r.next.line r.next.vertex (kept r)

pub reader_takes_text : (r : TextReader) → TakesText (reader_port r)
reader_takes_text r = keeping_takes_text r.closed (kept r)

-- what it will keep after one next
abbrev pub leaves : TextReader → List ℕ
leaves r = unread (mark_at r.closed) r.next.line r.next.vertex (kept r)

-- A line that holds no event was read and dropped.
pub record Dropped (r s : TextReader) : Type 0 where
  pub same : Same (reader_means r) (reader_means s)
  pub port_kept : SameKind (reader_port r) (reader_port s)
  pub left : leaves s ≡ leaves r
  pub shorter : length (kept s) < length (kept r)

-- next answered this.
pub record Answered (r : TextReader) (a : Result Event Standing) (s : TextReader) : Type 0 where
  pub by_rule : Nexted (reader_port r) (reader_means r) a (reader_port s) (reader_means s)
  pub left : kept s ≡ leaves r

abbrev pub LineTaken : TextReader → Result (Option Event) Standing → TextReader → Type 0
LineTaken r (Ok None) s = Dropped r s
LineTaken r (Ok (Some e)) s = Answered r (Ok e) s
LineTaken r (Err x) s = Answered r (Err x) s

-- Refused exactly where it is closed.
abbrev pub OpenOr : Result (Unit {0}) Refusal → Bool → Type 0
OpenOr (Ok _) is_closed = is_closed ≡ false
OpenOr (Err e) is_closed = (is_closed ≡ true) × (e ≡ InletClosed)

-- What is kept after feeding.
abbrev pub kept_fed : List ℕ → List ℕ → Result ℕ Refusal → List ℕ
kept_fed old piece (Ok k) = old ++ take k piece
kept_fed old piece (Err e) = old
