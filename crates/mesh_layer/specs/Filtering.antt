-- What a filter does to the outcome of the stage below.
use Rattle.std.specs.Prelude.{◌≡◌, ℕ, List, [], ◌∷◌, ◌++◌, Some, None, Option, Ok, Err, Result}
use Rattle.mesh_stream.specs.declared.fault.Fault.{Fault}
use Rattle.mesh_stream.specs.declared.stage.Standing.{Standing}
use Rattle.mesh_stream.specs.declared.stage.Standing.TheVariants.{Waiting, Faulty}
use Rattle.mesh_stream.specs.Meaning.{Mark, Meaning, Outcome, outcome, prepend, Begins, IsWaiting}
use Rattle.mesh_stream.specs.Runs.{prepends}

-- What makes of every lawful stage a lawful one.
pub record Filtering {I O : Type 0} (F : Outcome I → Outcome O) : Type 0 where
  -- of more items it makes more
  pub begins : (xs ys : List I) (s r : Standing) → Begins (F (outcome xs s)).items (F (outcome (xs ++ ys) r)).items
  -- it waits only where what is below waits
  pub waits : (o : Outcome I) → IsWaiting (F o).stands → IsWaiting o.stands
  -- where it does not wait, although what is below does, no further item matters
  pub stops : (xs ys : List I) (s r : Standing) → IsWaiting s → (IsWaiting (F (outcome xs s)).stands → ⊥)
      → F (outcome (xs ++ ys) r) ≡ F (outcome xs s)

module _ {I O H : Type 0} (empty : H) (F : H → Outcome I → Outcome O) where
  -- One of the items that it had to hand over; or there was none, and all was handed over.
  -- E is what it does after the call, h what is left to hand over.
  abbrev pub Gives : H → Option O → H → (H → Outcome I → Outcome O) → Type 0
  Gives old (Some i) h E = (o : Outcome I) → F old o ≡ prepend i (E h o)
  Gives old None h E = ((o : Outcome I) → F old o ≡ E h o) × (h ≡ empty)

  -- Having handed over all, it takes an item: what it makes of it is to be handed over; or it is at fault, and does what it did.
  abbrev pub Takes : I → Result H Fault → (H → Outcome I → Outcome O) → Type 0
  Takes i (Ok h) E = (o : Outcome I) → F empty (prepend i o) ≡ E h o
  Takes i (Err f) E = ((o : Outcome I) → F empty (prepend i o) ≡ outcome [] (Faulty f)) × ((h : H) (o : Outcome I) → E h o ≡ F h o)

  -- Having handed over all, with no item below, it stands so.
  abbrev pub StandsSo : Standing → Standing → Type 0
  StandsSo below s = F empty (outcome [] below) ≡ outcome [] s

-- What the layer took of the stage below, whose meaning was G and is H now; F is what it made of what was still to come.
pub record Asks {I O : Type 0} (F : Outcome I → Outcome O) (G H : Meaning I) : Type 0 where
  pub taken : List I
  pub left : (t : List ℕ) (m : Mark) → G t m ≡ prepends taken (H t m)
  -- It asks only when it has nothing to hand over and is not at fault: each beginning of these, but all of them, left it waiting.
  pub needed : (xs ys : List I) (y : I) → taken ≡ xs ++ (y ∷ ys) → F (outcome xs Waiting) ≡ outcome [] Waiting
