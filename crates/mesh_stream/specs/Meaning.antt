-- What a stage means, and the law that every stage keeps.
use Rattle.std.specs.Prelude.{◌≡◌, ℕ, List, [], ◌∷◌, ◌++◌}
use Rattle.mesh_stream.specs.declared.stage.Standing.{Standing}
use Rattle.mesh_stream.specs.declared.stage.Standing.TheVariants.{Waiting, Ended, Faulty}

-- Whether the text is open, so that more of it may come, or closed.
pub data Mark : Type 0 where
  unclosed : Mark
  closed : Mark

-- A finite list of items, and how a stage stands once it has handed them over.
pub record Outcome (I : Type 0) : Type 0 where
  pub items : List I
  pub stands : Standing

abbrev pub outcome : {I : Type 0} → List I → Standing → Outcome I
outcome xs s = record { items = xs; stands = s }

-- the same with one item more in front
abbrev pub prepend : {I : Type 0} → I → Outcome I → Outcome I
prepend i o = outcome (i ∷ o.items) o.stands

-- The meaning of a stage: for every text that may still come and each mark, the outcome.
abbrev pub Meaning : Type 0 → Type 0
Meaning I = List ℕ → Mark → Outcome I

-- Whether a stage takes text: never; or it is open, and has room for so many bytes; or it is closed.
pub data Port : Type 0 where
  textless : Port
  open_for : ℕ → Port
  shut : Port

abbrev pub room : Port → ℕ
room textless = 0
room (open_for n) = n
room shut = 0

abbrev pub TakesText : Port → Type 0
TakesText textless = ⊥
TakesText (open_for n) = Unit {0}
TakesText shut = Unit {0}

abbrev pub Open : Port → Type 0
Open textless = ⊥
Open (open_for n) = Unit {0}
Open shut = ⊥

-- xs is the front of ys
abbrev pub Begins : {I : Type 0} → List I → List I → Type 0
Begins {I} xs ys = (zs : List I) × (ys ≡ xs ++ zs)

abbrev pub IsWaiting : Standing → Type 0
IsWaiting Waiting = Unit {0}
IsWaiting Ended = ⊥
IsWaiting (Faulty f) = ⊥

-- two meanings agree at every text and mark
abbrev pub Same : {I : Type 0} → Meaning I → Meaning I → Type 0
Same G H = (t : List ℕ) (m : Mark) → H t m ≡ G t m

-- one outcome, whatever the text and the mark
abbrev pub Fixed : {I : Type 0} → Meaning I → Type 0
Fixed G = (t : List ℕ) (m : Mark) → G t m ≡ G [] unclosed

-- The law of a stage.
pub record Lawful {I : Type 0} (p : Port) (G : Meaning I) : Type 0 where
  -- what an open text gives begins what every text gives that continues it
  pub grows : (t u : List ℕ) (m : Mark) → Begins (G t unclosed).items (G (t ++ u) m).items
  -- a closed text is not waited for
  pub settles : (t : List ℕ) → IsWaiting (G t closed).stands → ⊥
  -- what ended or is at fault stays so, whatever text comes
  pub settled : (IsWaiting (G [] unclosed).stands → ⊥) → Fixed G
  -- a closed inlet heeds no text
  pub shut_fixed : p ≡ shut → Fixed G
