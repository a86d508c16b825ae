-- How many turns the loop over a text can take.
use Rattle.std.proofs.Common.{◌≡◌, ◌⊎◌, inl, inr, ℕ, ◌+◌, ◌≤◌, List, [], length, Option, Some, None, sym, ap, ◌∙◌, subst, arith}
use Rattle.mesh_stream.specs.declared.stage.Standing.{Standing}
use Rattle.mesh_stream.specs.declared.stage.Standing.TheVariants.{Waiting}
use Rattle.mesh_stream.specs.Meaning.{closed, Port, textless, open_for, shut, Outcome, outcome, Meaning, IsWaiting, Lawful}
use Rattle.mesh_stream.specs.Calls.{SameKind}
use Rattle.mesh_listing.specs.Steps.{Emptied, TextPassed}

pub same_kind_trans : (p q r : Port) → SameKind p q → SameKind q r → SameKind p r
same_kind_trans textless q r a b = subst (λ (z : Port). SameKind z r) a b
same_kind_trans (open_for n) q r (k, e) b = subst (λ (z : Port). SameKind z r) e b
same_kind_trans shut q r a b = subst (λ (z : Port). SameKind z r) a b

-- Each turn has passed on a byte of the text at least, or the last has shut the port.
abbrev pub TurnsOf : Option (List ℕ) → Option (List ℕ) → Port → ℕ → Type 0
TurnsOf None left p i = Unit {0}
TurnsOf (Some text) None p i = ⊥
TurnsOf (Some text) (Some rest) p i = (length rest + i ≤ length text) ⊎ ((p ≡ shut) × (i ≤ length text + 1))

-- A closed stage that has none left does not wait.
shut_rests : {I : Type 0} (p : Port) (G : Meaning I) (s : Standing) → Lawful p G → Emptied s p G → p ≡ shut → s ≡ Waiting → ⊥
shut_rests {I} p G s law e is_shut w = law.settles [] (subst IsWaiting (sym (ap (λ (o : Outcome I). o.stands) stays ∙ w)) tt)
  where
    stays : G [] closed ≡ outcome [] s
    stays = law.shut_fixed is_shut [] closed ∙ e.none

-- A turn more, where the stage waited.
pub turn_more : {I : Type 0} (known left next : Option (List ℕ)) (p q r : Port) (G H : Meaning I) (s : Standing) (i : ℕ)
    → TurnsOf known left p i → SameKind p q → Lawful q G → Emptied s q G → s ≡ Waiting → TextPassed left next G r H
    → TurnsOf known next r (i + 1)
turn_more None left next p q r G H s i turns kept law e w passed = tt
turn_more (Some text) None next p q r G H s i turns kept law e w passed = absurd turns
turn_more (Some text) (Some rest) None p q r G H s i turns kept law e w passed = absurd passed
turn_more (Some text) (Some rest) (Some more) p q r G H s i (inl few) kept law e w passed = elim passed.onward [
  | inl fewer ↦ inl (omega arith)
  | inr now_shut ↦ inr (now_shut, omega arith)
]
turn_more (Some text) (Some rest) (Some more) p q r G H s i (inr (was_shut, few)) kept law e w passed =
    absurd (shut_rests q G s law e (subst (λ (z : Port). SameKind z q) was_shut kept) w)
