-- How far a text was read, and what the stage means by then.
use Rattle.std.proofs.Common.{◌≡◌, ◌⊎◌, inl, inr, ℕ, ◌≤◌, List, [], ◌∷◌, ◌++◌, length, Option, Some, None, sym, ap, ◌∙◌, subst, append_assoc, append-nil}
use Rattle.mesh_stream.specs.declared.stage.Standing.{Standing}
use Rattle.mesh_stream.specs.declared.stage.Standing.TheVariants.{Waiting}
use Rattle.mesh_stream.specs.Meaning.{Mark, unclosed, Outcome, outcome, prepend, Meaning, IsWaiting, Same}
use Rattle.mesh_listing.specs.Steps.{SameStanding, Taken, PieceTaken, TextReadTo}
use Rattle.mesh_listing.proofs.Printing.{waits}

none_after : (piece more : List ℕ) → [] ≡ piece ++ more → more ≡ []
none_after [] more e = sym e
none_after (b ∷ piece) more e = cc

module _ {I : Type 0} where
  abbrev stands_of : Outcome I → Standing
  stands_of o = o.stands

  -- A stage meant F, and means G now that all but the rest of the text was handed to it; or no rest is left.
  pub record ReachedTo (text rest : List ℕ) (F G : Meaning I) : Type 0 where
    pub before : List ℕ
    pub last : List ℕ
    pub bytes : text ≡ (before ++ last) ++ rest
    pub few : length last ≤ 4096
    pub waited : (before ++ last ≡ []) ⊎ IsWaiting (F before unclosed).stands
    pub now : (rest ≡ []) ⊎ ((t : List ℕ) → (F ((before ++ last) ++ t) unclosed).stands ≡ (G t unclosed).stands)

  abbrev pub Reached : Option (List ℕ) → Option (List ℕ) → Meaning I → Meaning I → Type 0
  Reached None left F G = Unit {0}
  Reached (Some text) None F G = ⊥
  Reached (Some text) (Some rest) F G = ReachedTo text rest F G

  pub standing_more : (F G H : Meaning I) (i : I) → SameStanding F G
      → ((t : List ℕ) (m : Mark) → G t m ≡ prepend i (H t m)) → SameStanding F H
  standing_more F G H i kept first = record { stands = λ t m. kept.stands t m ∙ ap stands_of (first t m) }

  pub standing_still : (F G H : Meaning I) → SameStanding F G → Same G H → SameStanding F H
  standing_still F G H kept same = record { stands = λ t m. kept.stands t m ∙ sym (ap stands_of (same t m)) }

  -- What is printed changes nothing of how the stage stands.
  pub reach_printed : (known left : Option (List ℕ)) (F G H : Meaning I) → Reached known left F G → SameStanding G H
      → Reached known left F H
  reach_printed None left F G H r kept = tt
  reach_printed (Some text) None F G H r kept = absurd r
  reach_printed (Some text) (Some rest) F G H r kept = record {
    before = r.before;
    last = r.last;
    bytes = r.bytes;
    few = r.few;
    waited = r.waited;
    now = elim r.now [
      | inl none ↦ inl none
      | inr same ↦ inr (λ t. same t ∙ kept.stands t unclosed)
    ];
  }

  -- By what was read, open, the stage stands as it does now that it has none left.
  stands_by_read : (read : List ℕ) (F G : Meaning I) (s : Standing) → G [] unclosed ≡ outcome [] s
      → ((t : List ℕ) → (F (read ++ t) unclosed).stands ≡ (G t unclosed).stands) → (F read unclosed).stands ≡ s
  stands_by_read read F G s none same =
      sym (ap (λ (t : List ℕ). (F t unclosed).stands) (append-nil read)) ∙ same [] ∙ ap stands_of none

  at_the_end : (text rest more : List ℕ) (F G H : Meaning I) → ReachedTo text rest F G → rest ≡ [] → Taken 4096 rest more G H
      → ReachedTo text more F H
  at_the_end text rest more F G H r none p = record {
    before = r.before;
    last = r.last;
    bytes = r.bytes ∙ ap (λ (z : List ℕ). (r.before ++ r.last) ++ z) (none ∙ sym no_more);
    few = r.few;
    waited = r.waited;
    now = inl no_more;
  }
    where
      no_more : more ≡ []
      no_more = none_after p.piece more (sym none ∙ p.read)

  a_piece_more : (text rest more : List ℕ) (F G H : Meaning I) (r : ReachedTo text rest F G) → G [] unclosed ≡ outcome [] Waiting
      → ((t : List ℕ) → (F ((r.before ++ r.last) ++ t) unclosed).stands ≡ (G t unclosed).stands) → Taken 4096 rest more G H
      → ReachedTo text more F H
  a_piece_more text rest more F G H r none same p = record {
    before = read;
    last = p.piece;
    bytes = r.bytes ∙ ap (λ (z : List ℕ). read ++ z) p.read ∙ sym (append_assoc read p.piece more);
    few = p.few;
    waited = inr (subst IsWaiting (sym (stands_by_read read F G Waiting none same)) tt);
    now = elim p.behind [
      | inl end ↦ inl end
      | inr behind ↦ inr (λ t. ap (λ (z : List ℕ). (F z unclosed).stands) (append_assoc read p.piece t) ∙ same (p.piece ++ t)
          ∙ sym (ap stands_of (behind t)))
    ];
  }
    where
      read : List ℕ
      read = r.before ++ r.last

  -- A turn more, where the stage waited.
  pub reach_more : (known left next : Option (List ℕ)) (most : ℕ) (F G H : Meaning I) → Reached known left F G
      → G [] unclosed ≡ outcome [] Waiting → most ≡ 4096 → PieceTaken most left next G H → Reached known next F H
  reach_more None left next most F G H r none limit p = tt
  reach_more (Some text) None next most F G H r none limit p = absurd r
  reach_more (Some text) (Some rest) None most F G H r none limit p = absurd p
  reach_more (Some text) (Some rest) (Some more) most F G H r none limit taken =
      let p = subst (λ (n : ℕ). Taken n rest more G H) limit taken in elim r.now [
        | inl end ↦ at_the_end text rest more F G H r end p
        | inr same ↦ a_piece_more text rest more F G H r none same p
      ]

  -- Where it does not wait any more, the text was read so far.
  pub read_to : (known left : Option (List ℕ)) (F G : Meaning I) (s : Standing) → Reached known left F G → G [] unclosed ≡ outcome [] s
      → (s ≡ Waiting → ⊥) → TextReadTo known left F
  read_to None left F G s r none n = tt
  read_to (Some text) None F G s r none n = absurd r
  read_to (Some text) (Some rest) F G s r none n = record {
    before = r.before;
    last = r.last;
    bytes = r.bytes;
    few = r.few;
    waited = r.waited;
    enough = elim r.now [
      | inl end ↦ inl end
      | inr same ↦ inr (λ w. n (waits s (subst IsWaiting (stands_by_read (r.before ++ r.last) F G s none same) w)))
    ];
  }
