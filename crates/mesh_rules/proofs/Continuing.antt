-- What clean and clip make of a list begins what they make of the list that goes on.
use Rattle.std.proofs.Common.{◌≡◌, ℕ, Bool, true, not, ◌&&◌, List, ◌++◌, filter, sym, refl, ap, ◌∙◌}
use Rattle.std.proofs.lemmas.List.Elements.{filter-append}
use Rattle.std.specs.List.{AllByRecursion as All}
use Rattle.mesh_stream.specs.declared.event.Point.{Point}
use Rattle.mesh_stream.specs.declared.event.Event.{Event}
use Rattle.mesh_stream.specs.declared.event.Event.TheVariants.{Vertex, Triangle, Finalization}
use Rattle.mesh_stream.specs.Lists.{has}
use Rattle.mesh_stream.specs.Events.{introduced, point}
use Rattle.mesh_stream.specs.Meaning.{Begins}
use Rattle.mesh_rules.specs.Degenerate.{degenerate}
use Rattle.mesh_rules.specs.Rewriting.{is_sound, cleaned, names_kept, clipped}
use Rattle.mesh_judge.proofs.Knowing.{point_stays}
use Rattle.mesh_rules.proofs.Naming.{Known, filter_agree_on}

module _ (xs ys : List Event) (known : All (Known (introduced xs)) xs) where
  filtered_begins : (p q : Event → Bool) → ((e : Event) → Known (introduced xs) e → p e ≡ q e) → Begins (filter p xs) (filter q (xs ++ ys))
  filtered_begins p q h = (
    filter q ys,
    filter-append q xs ys ∙ ap (λ (z : List Event). z ++ filter q ys) (sym (filter_agree_on (Known (introduced xs)) p q h xs known)),
  )

  -- a test that looks up the three corners
  looked_up : (test : Point → Point → Point → Bool) (a b c : ℕ)
      → has a (introduced xs) ≡ true → has b (introduced xs) ≡ true → has c (introduced xs) ≡ true
      → test (point xs a) (point xs b) (point xs c) ≡ test (point (xs ++ ys) a) (point (xs ++ ys) b) (point (xs ++ ys) c)
  looked_up test a b c ha hb hc =
      ap (λ (z : Point). test z (point xs b) (point xs c)) (sym (point_stays xs ys a ha))
      ∙ ap (λ (z : Point). test (point (xs ++ ys) a) z (point xs c)) (sym (point_stays xs ys b hb))
      ∙ ap (λ (z : Point). test (point (xs ++ ys) a) (point (xs ++ ys) b) z) (sym (point_stays xs ys c hc))

  pub cleaned_begins : Begins (cleaned xs) (cleaned (xs ++ ys))
  cleaned_begins = filtered_begins (is_sound (point xs)) (is_sound (point (xs ++ ys))) agree
    where
      agree : (e : Event) → Known (introduced xs) e → is_sound (point xs) e ≡ is_sound (point (xs ++ ys)) e
      agree (Vertex l n v) h = refl
      agree (Triangle l a b c) h = looked_up (λ u v w. not (degenerate u v w)) a b c h.0 h.1 h.2
      agree (Finalization l i) h = refl

  pub clipped_begins : (inside : Point → Bool) → Begins (clipped inside xs) (clipped inside (xs ++ ys))
  clipped_begins inside = filtered_begins (names_kept (λ n. inside (point xs n))) (names_kept (λ n. inside (point (xs ++ ys) n))) agree
    where
      agree : (e : Event) → Known (introduced xs) e
          → names_kept (λ n. inside (point xs n)) e ≡ names_kept (λ n. inside (point (xs ++ ys) n)) e
      agree (Vertex l n v) h = ap inside (sym (point_stays xs ys n h))
      agree (Triangle l a b c) h = looked_up (λ u v w. inside u && inside v && inside w) a b c h.0 h.1 h.2
      agree (Finalization l i) h = ap inside (sym (point_stays xs ys i h))
