-- Feeds of a text reader that has room for all of the piece.
use Rattle.std.proofs.Common.{◌≡◌, ℕ, ◌+◌, ◌-◌, ◌≤◌, Bool, true, false, List, ◌++◌, length, take, min, Ok, refl, subst, ap, ◌∙◌, arith, length-append, length-take}
use Rattle.mesh_stream.specs.declared.event.Event.{Event}
use Rattle.mesh_stream.specs.Meaning.{open_for, room, Open}
use Rattle.mesh_stream.specs.Runs.{View, viewed, feeds, Step}
use Rattle.mesh_reader.specs.declared.reader.TextReader.{TextReader}
use Rattle.mesh_reader.specs.Keeping.{keeping_port}
use Rattle.mesh_reader.specs.Readers.{kept, reader_means, reader_port, reader_lawful}

abbrev pub view_of : TextReader → View Event
view_of r = viewed (reader_port r) (reader_means r) (reader_lawful r)

open_room : (c : Bool) (bytes : List ℕ) → Open (keeping_port c bytes) → room (keeping_port c bytes) ≡ 4096 - length bytes
open_room true bytes o = absurd o
open_room false bytes o = refl

-- With all of its room it keeps nothing.
none_kept : (c : Bool) (bytes : List ℕ) → keeping_port c bytes ≡ open_for 4096 → length bytes ≡ 0
none_kept true bytes e = absurd cc
none_kept false bytes e = let h : 4096 - length bytes ≡ 4096 = cc in omega arith

pub new_keeps_none : (r : TextReader) → reader_port r ≡ open_for 4096 → length (kept r) ≡ 0
new_keeps_none r e = none_kept r.closed (kept r) e

-- Where the piece fits into the room, all of it is taken, and kept.
module _ (r s : TextReader) (piece : List ℕ) (k : ℕ) (step : Step (view_of r) (feeds piece (Ok k)) (view_of s))
    (fits : length (kept r) + length piece ≤ 4096) where
  all_taken : k ≡ length piece
  all_taken =
      let free : room (reader_port r) ≡ 4096 - length (kept r) = open_room r.closed (kept r) step.was_open in
      omega (arith, step.count)

  pub fed_whole : Step (view_of r) (feeds piece (Ok (length piece))) (view_of s)
  fed_whole = subst (λ (n : ℕ). Step (view_of r) (feeds piece (Ok n)) (view_of s)) all_taken step

  pub kept_whole : kept s ≡ kept r ++ take k piece → length (kept s) ≡ length (kept r) + length piece
  kept_whole e =
      let taken : length (take k piece) ≡ min k (length piece) = length-take k piece in
      ap length e ∙ length-append (kept r) (take k piece) ∙ omega (arith, all_taken)
