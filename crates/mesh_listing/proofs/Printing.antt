-- What was printed so far, and what that makes of the whole.
use Rattle.std.proofs.Common.{◌≡◌, ℕ, List, [], ◌∷◌, ◌++◌, Option, Some, None, IfSome, sym, refl, ap, ◌∙◌, subst, append_assoc, append-nil}
use Rattle.std.proofs.lemmas.Grind.{flat_map-append}
use Rattle.std.specs.Fmt.{◌++?◌}
use Rattle.std.specs.Io.KnownBytes.{Appends}
use Rattle.mesh_stream.specs.declared.stage.Standing.{Standing}
use Rattle.mesh_stream.specs.declared.stage.Standing.TheVariants.{Waiting, Ended, Faulty}
use Rattle.mesh_stream.specs.Meaning.{Mark, closed, Port, Outcome, outcome, prepend, Meaning, IsWaiting, Lawful}
use Rattle.mesh_stream.specs.Shown.{standing_text}
use Rattle.mesh_stream.specs.Runs.{prepends}
use Rattle.mesh_listing.specs.declared.list.Listed.{Listed}
use Rattle.mesh_listing.specs.declared.list.Listed.TheVariants.{Whole, Endless}
use Rattle.mesh_listing.specs.Lines.{line, lines, listing}
use Rattle.mesh_listing.specs.Steps.{Printed, Emptied, TextPassed, ListedAs}

append_then : (u v w : Option (List ℕ)) (a b : List ℕ) → Appends u v a → Appends v w b → Appends u w (a ++ b)
append_then None v w a b x y = tt
append_then (Some xs) None w a b x y = absurd x
append_then (Some xs) (Some ys) None a b x y = y
append_then (Some xs) (Some ys) (Some zs) a b x y = y ∙ ap (λ (t : List ℕ). t ++ b) x ∙ append_assoc xs a b

-- The line that was written shows what is known to be shown.
pub line_shown : (u v known : Option (List ℕ)) (bytes : List ℕ) → known ≡ Some bytes → IfSome (known ++? Some (10 ∷ [])) (Appends u v)
    → Appends u v (line bytes)
line_shown u v known bytes e written = subst (λ (k : Option (List ℕ)). IfSome (k ++? Some (10 ∷ [])) (Appends u v)) e written

pub waits : (s : Standing) → IsWaiting s → s ≡ Waiting
waits Waiting w = refl
waits Ended w = absurd w
waits (Faulty f) w = absurd w

module _ {I : Type 0} (shown : I → List ℕ) where
  -- Some items and then others are one list of items, in what was handed over and in what was printed.
  add_prepended : (xs ys : List I) (o : Outcome I) → prepends xs (prepends ys o) ≡ prepends (xs ++ ys) o
  add_prepended xs ys o = ap (λ (zs : List I). outcome zs o.stands) (sym (append_assoc xs ys o.items))

  add_lines : (u v w : Option (List ℕ)) (xs ys : List I) → Appends u v (lines shown xs) → Appends v w (lines shown ys)
      → Appends u w (lines shown (xs ++ ys))
  add_lines u v w xs ys a b = subst (λ (t : List ℕ). Appends u w t) (sym (flat_map-append (λ i. line (shown i)) xs ys))
      (append_then u v w (lines shown xs) (lines shown ys) a b)

  pub printed_then : (F G H : Meaning I) (u v w : Option (List ℕ)) → Printed shown F u G v → Printed shown G v H w → Printed shown F u H w
  printed_then F G H u v w a b = record {
    items = a.items ++ b.items;
    handed = λ t m. a.handed t m ∙ ap (prepends a.items) (b.handed t m) ∙ add_prepended a.items b.items (H t m);
    bytes = add_lines u v w a.items b.items a.bytes b.bytes;
  }

  -- One item.
  pub printed_one : (G H : Meaning I) (v w : Option (List ℕ)) (i : I)
      → ((t : List ℕ) (m : Mark) → G t m ≡ prepend i (H t m)) → Appends v w (line (shown i)) → Printed shown G v H w
  printed_one G H v w i first written = record {
    items = i ∷ [];
    handed = first;
    bytes = subst (λ (t : List ℕ). Appends v w t) (sym (append-nil (line (shown i)))) written;
  }

  -- A stage meant F, and of the text to read, closed, some items were printed, and the rest is what it means of what is left to read.
  abbrev pub PrintedOf : Option (List ℕ) → Option (List ℕ) → Meaning I → Meaning I → Option (List ℕ) → Option (List ℕ) → Type 0
  PrintedOf None left F G old new = Unit {0}
  PrintedOf (Some text) None F G old new = ⊥
  PrintedOf (Some text) (Some rest) F G old new =
      (is : List I) × (F text closed ≡ prepends is (G rest closed)) × Appends old new (lines shown is)

  pub print_more : (known left : Option (List ℕ)) (F G H : Meaning I) (u v w : Option (List ℕ))
      → PrintedOf known left F G u v → Printed shown G v H w → PrintedOf known left F H u w
  print_more None left F G H u v w so_far p = tt
  print_more (Some text) None F G H u v w so_far p = absurd so_far
  print_more (Some text) (Some rest) F G H u v w (is, all, bytes) p = (
    is ++ p.items,
    all ∙ ap (prepends is) (p.handed rest closed) ∙ add_prepended is p.items (H rest closed),
    add_lines u v w is p.items bytes p.bytes,
  )

  pub pass_more : (known left next : Option (List ℕ)) (F G H : Meaning I) (q : Port) (u v : Option (List ℕ))
      → PrintedOf known left F G u v → TextPassed left next G q H → PrintedOf known next F H u v
  pass_more None left next F G H q u v so_far p = tt
  pass_more (Some text) None next F G H q u v so_far p = absurd so_far
  pass_more (Some text) (Some rest) None F G H q u v so_far p = absurd p
  pass_more (Some text) (Some rest) (Some more) F G H q u v (is, all, bytes) p = (is, all ∙ ap (prepends is) (sym p.same), bytes)

  -- A stage that has none left and does not wait stands so whatever text comes.
  pub all_printed : (known left : Option (List ℕ)) (F G : Meaning I) (u v w : Option (List ℕ)) (p : Port) (s : Standing)
      → Lawful p G → Emptied s p G → (s ≡ Waiting → ⊥) → PrintedOf known left F G u v → Appends v w (line (standing_text s))
      → IfSome known (λ text. Appends u w (listing shown (F text closed)))
  all_printed None left F G u v w p s law e n so_far last = tt
  all_printed (Some text) None F G u v w p s law e n so_far last = absurd so_far
  all_printed (Some text) (Some rest) F G u v w p s law e n (is, all, bytes) last =
      subst (λ (o : Outcome I). Appends u w (listing shown o)) (sym whole)
      (subst (λ (js : List I). Appends u w (lines shown js ++ line (standing_text s))) (sym (append-nil is))
      (append_then u v w (lines shown is) (line (standing_text s)) bytes last))
    where
      stays : G rest closed ≡ outcome [] s
      stays = law.settled (λ w. n (waits s (subst IsWaiting (ap (λ (o : Outcome I). o.stands) e.none) w))) rest closed ∙ e.none

      whole : F text closed ≡ outcome (is ++ []) s
      whole = all ∙ ap (prepends is) stays

  pub whole_listed : (known u w : Option (List ℕ)) (l : Listed) (F : List ℕ → Outcome I) → l ≡ Whole
      → IfSome known (λ text. ListedAs shown text (F text) u w l) → IfSome known (λ text. Appends u w (listing shown (F text)))
  whole_listed None u w l F whole listed = tt
  whole_listed (Some text) u w Whole F whole listed = listed
  whole_listed (Some text) u w Endless F whole listed = cc

  -- What is printed for a text by one meaning is printed by another that gives the same.
  pub same_listing : (known u w : Option (List ℕ)) (F G : List ℕ → Outcome I) → ((t : List ℕ) → F t ≡ G t)
      → IfSome known (λ text. Appends u w (listing shown (F text))) → IfSome known (λ text. Appends u w (listing shown (G text)))
  same_listing None u w F G same printed = tt
  same_listing (Some text) u w F G same printed = subst (λ (o : Outcome I). Appends u w (listing shown o)) (same text) printed
