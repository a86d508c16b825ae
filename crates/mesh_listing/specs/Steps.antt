-- What each step prints and reads.
use Rattle.std.specs.Prelude.{◌≡◌, ◌⊎◌, ℕ, ◌+◌, ◌^◌, ◌<◌, ◌≤◌, List, [], ◌++◌, length, take, ⊤, None, Some, Option}
use Rattle.std.specs.Io.KnownBytes.{Appends, Consumes, IsAtEnd}
use Rattle.mesh_stream.specs.declared.stage.Standing.{Standing}
use Rattle.mesh_stream.specs.Meaning.{Mark, unclosed, closed, Port, shut, Outcome, outcome, Meaning, IsWaiting}
use Rattle.mesh_stream.specs.Calls.{Roomy}
use Rattle.mesh_stream.specs.Runs.{prepends}
use Rattle.mesh_listing.specs.declared.list.Listed.{Listed}
use Rattle.mesh_listing.specs.declared.list.Listed.TheVariants.{Whole, Endless}
use Rattle.mesh_listing.specs.Lines.{lines, listing}

-- Some of the bytes to read were read, n of them, at most so many; none only at their end.
pub record PieceRead (most : ℕ) (old new : Option (List ℕ)) (n : ℕ) (piece : List ℕ) : Type 0 where
  pub few : (n ≤ most) × (n ≤ length piece)
  pub bytes : Consumes old new (take n piece)
  pub at_end : n ≡ 0 → 1 ≤ most → 1 ≤ length piece → IsAtEnd new

module _ {I : Type 0} where
  -- A stage that meant G handed over some items and means H now; these were printed, each as it is shown.
  pub record Printed (shown : I → List ℕ) (G : Meaning I) (old : Option (List ℕ)) (H : Meaning I) (new : Option (List ℕ)) : Type 0 where
    pub items : List I
    pub handed : (t : List ℕ) (m : Mark) → G t m ≡ prepends items (H t m)
    pub bytes : Appends old new (lines shown items)

  -- Whatever text comes and whether it is closed, the stage will stand the same.
  pub record SameStanding (G H : Meaning I) : Type 0 where
    pub stands : (t : List ℕ) (m : Mark) → (G t m).stands ≡ (H t m).stands

  -- It has none left, and stands so; while it waits, it has room.
  pub record Emptied (s : Standing) (p : Port) (H : Meaning I) : Type 0 where
    pub none : H [] unclosed ≡ outcome [] s
    pub roomy : IsWaiting s → Roomy p

  -- Some of the bytes to read were handed to a stage, or it was closed at their end: of all that is to read, closed, it means the same
  -- as before.
  pub record Passed (text rest : List ℕ) (G : Meaning I) (p : Port) (H : Meaning I) : Type 0 where
    pub same : H rest closed ≡ G text closed
    pub onward : (length rest < length text) ⊎ (p ≡ shut)

  abbrev pub TextPassed : Option (List ℕ) → Option (List ℕ) → Meaning I → Port → Meaning I → Type 0
  TextPassed None new G p H = ⊤
  TextPassed (Some text) None G p H = ⊥
  TextPassed (Some text) (Some rest) G p H = Passed text rest G p H

  -- A piece of the text was read, at most so many bytes, and handed to a stage that meant G and means H now; or none was left to read.
  pub record Taken (most : ℕ) (text rest : List ℕ) (G H : Meaning I) : Type 0 where
    pub piece : List ℕ
    pub read : text ≡ piece ++ rest
    pub few : length piece ≤ most
    pub behind : (rest ≡ []) ⊎ ((t : List ℕ) → H t unclosed ≡ G (piece ++ t) unclosed)

  abbrev pub PieceTaken : ℕ → Option (List ℕ) → Option (List ℕ) → Meaning I → Meaning I → Type 0
  PieceTaken most None new G H = ⊤
  PieceTaken most (Some text) None G H = ⊥
  PieceTaken most (Some text) (Some rest) G H = Taken most text rest G H

  -- How far a text was read for a stage that means G: to its end, or until the stage no longer waits; and without the last piece, where
  -- anything was read, it waits.
  pub record ReadTo (text rest : List ℕ) (G : Meaning I) : Type 0 where
    pub before : List ℕ
    pub last : List ℕ
    pub bytes : text ≡ (before ++ last) ++ rest
    pub few : length last ≤ 4096
    pub waited : (before ++ last ≡ []) ⊎ IsWaiting (G before unclosed).stands
    pub enough : (rest ≡ []) ⊎ (IsWaiting (G (before ++ last) unclosed).stands → ⊥)

  abbrev pub TextReadTo : Option (List ℕ) → Option (List ℕ) → Meaning I → Type 0
  TextReadTo None new G = ⊤
  TextReadTo (Some text) None G = ⊥
  TextReadTo (Some text) (Some rest) G = ReadTo text rest G

  -- The listing of a text's outcome was printed; or the text has 2^64 - 2 bytes or more.
  abbrev pub ListedAs : (I → List ℕ) → List ℕ → Outcome I → Option (List ℕ) → Option (List ℕ) → Listed → Type 0
  ListedAs shown text o old new Whole = Appends old new (listing shown o)
  ListedAs shown text o old new Endless = 2 ^ 64 ≤ length text + 2
