-- Three words that are read in the same way, and what is made of them.
use Rattle.std.proofs.Common.{◌≡◌, List, [], ◌∷◌, Some, None, Ok, Err, Option, Result, refl, sym, ap, ◌∙◌}
use Rattle.mesh_stream.specs.declared.event.Event.{Event}
use Rattle.mesh_stream.specs.declared.fault.Cause.{Cause}
use Rattle.mesh_reader.specs.declared.numeral.Numeral.{Numeral}
use Rattle.mesh_reader.specs.Reading.{then, of_three}
use Rattle.mesh_reader.specs.Lines.{tuple}

module _ {A : Type 0} (rule : Option Numeral → Result A Cause) (make : A → A → A → Event) (words : Option (List (Option Numeral))) (r : Result (A × A × A) Cause) (is : r ≡ of_three rule tuple words) where
  abbrev on : A × A × A → Result Event Cause
  on t = Ok (make t.0 t.1 t.2)

  then_made : of_three rule make words ≡ then r on
  then_made = at words ∙ sym (ap (λ (s : Result (A × A × A) Cause). then s on) is)
    where
      by : (x y z : Result A Cause) → (then x λ i. then y λ j. then z λ k. Ok (make i j k)) ≡ then (then x λ i. then y λ j. then z λ k. Ok (tuple i j k)) on
      by (Err e) y z = refl
      by (Ok i) (Err e) z = refl
      by (Ok i) (Ok j) (Err e) = refl
      by (Ok i) (Ok j) (Ok k) = refl

      at : (words : Option (List (Option Numeral))) → of_three rule make words ≡ then (of_three rule tuple words) on
      at None = refl
      at (Some []) = refl
      at (Some (a ∷ [])) = refl
      at (Some (a ∷ (b ∷ []))) = refl
      at (Some (a ∷ (b ∷ (c ∷ [])))) = by (rule a) (rule b) (rule c)
      at (Some (a ∷ (b ∷ (c ∷ (w ∷ ws))))) = refl

  pub none_made : (e : Cause) → r ≡ Err e → of_three rule make words ≡ Err e
  none_made e was = then_made ∙ ap (λ (s : Result (A × A × A) Cause). then s on) was

  pub one_made : (a b c : A) → r ≡ Ok (a, b, c) → of_three rule make words ≡ Ok (make a b c)
  one_made a b c was = then_made ∙ ap (λ (s : Result (A × A × A) Cause). then s on) was
