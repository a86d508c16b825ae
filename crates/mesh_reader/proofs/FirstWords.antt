-- The first word of a line.
use Rattle.std.proofs.Common.{◌≡◌, ℕ, Bool, true, false, ◌==◌, List, [], ◌∷◌, Some, None, sym, refl, ap, ◌∙◌, subst}
use Rattle.std.proofs.lemmas.Bool.{both_ways, not-true, eq-eqb, ne_eqb}
use Rattle.mesh_reader.specs.declared.content.FirstWord.TheVariants.{Missing, Comment, Letter, Other}
use Rattle.mesh_reader.specs.Scanning.{separates, in_word, front, behind, past_blanks, at_word_end, rest_words, SameLine, NextIf}
use Rattle.mesh_reader.specs.Reading.{first_word, behind_first, by_first_byte}
use Rattle.mesh_reader.specs.Lines.{Begun}
use Rattle.mesh_reader.proofs.Words.{blanks_off, byte_off, words_past, no_word, word_ends, word_first, front_on, behind_on, front_end, behind_end}

-- The line goes on at `at`, behind its blanks.
module _ (old at new : List ℕ) (passed : at ≡ past_blanks old) where
  pub missing : NextIf in_word at None new → Begun old Missing new
  missing (e, stays) = record {
    same = subst (SameLine old) (sym stays) (blanks_off old at passed);
    is = sym (ap first_word (no_word old (ap at_word_end (sym passed) ∙ word_ends at e)));
    left = tt;
  }

  module _ (b : ℕ) (next : NextIf in_word at (Some b) new) where
    goes_on : separates b ≡ false
    goes_on = not-true (separates b) next.0

    same : SameLine old new
    same = byte_off old at new b passed goes_on next.1

    words_are : rest_words old ≡ (b ∷ front separates new) ∷ rest_words (behind separates new)
    words_are =
        sym (words_past old) ∙ ap rest_words (sym passed ∙ next.1) ∙ word_first (b ∷ new) goes_on
        ∙ ap (λ (w : List ℕ). w ∷ rest_words (behind separates (b ∷ new))) (front_on b new goes_on)
        ∙ ap (λ (xs : List ℕ). (b ∷ front separates new) ∷ rest_words xs) (behind_on b new goes_on)

    first_is : (t : Bool) → (b == 35) ≡ t → first_word (rest_words old) ≡ by_first_byte t b (front separates new)
    first_is t k = ap first_word words_are ∙ ap (λ s. by_first_byte s b (front separates new)) k

    pub comment : b ≡ 35 → Begun old Comment new
    comment k = record { same = same; is = sym (first_is true (eq-eqb b 35 k)); left = tt }

    pub letter : (c : ℕ) → c ≡ b → (b ≡ 35 → ⊥) → at_word_end new ≡ true → Begun old (Letter c) new
    letter c q k f = record {
      same = same;
      is = ap Letter q ∙ sym (first_is false (ne_eqb b 35 k) ∙ ap (by_first_byte false b) (front_end new f));
      left = ap behind_first words_are ∙ ap rest_words (behind_end new f);
    }

    pub other : (b ≡ 35 → ⊥) → at_word_end new ≡ false → Begun old Other new
    other k f = record { same = same; is = sym (first_is false (ne_eqb b 35 k) ∙ longer new f); left = tt }
      where
        longer : (bs : List ℕ) → at_word_end bs ≡ false → by_first_byte false b (front separates bs) ≡ Other
        longer [] e = absurd (both_ways true e refl)
        longer (c ∷ bs) e = ap (by_first_byte false b) (front_on c bs e)
