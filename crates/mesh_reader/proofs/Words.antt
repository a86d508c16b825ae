-- The words of a line, as it is gone through from left to right.
use Rattle.std.proofs.Common.{◌≡◌, ℕ, suc, ◌+◌, ◌<◌, ◌≤◌, Bool, true, false, cond, ◌||◌, ◌==◌, not, is_some, ◌⊎◌, List, [], ◌∷◌, ◌++◌, length, take, map, filter, Some, None, Option, sym, refl, ap, ◌∙◌, subst, inl, inr, arith, append-nil, append_assoc, length-append}
use Rattle.std.specs.List.{onto_first, All}
use Rattle.std.proofs.Math.ListN.{set}
use Rattle.std.proofs.lemmas.List.{take_all, take_more_set}
use Rattle.std.proofs.lemmas.List.Elements.{All-nil, All-cons}
use Rattle.std.proofs.lemmas.List.Splits.{slice_split-cons_yes, slice_split-cons_no}
use Rattle.std.proofs.lemmas.Bool.{not-false, eqb-true, eq-eqb, ne_eqb, both_ways, or_cases, or_parts}
use Rattle.mesh_reader.specs.declared.numeral.Numeral.{Numeral}
use Rattle.mesh_reader.specs.Text.{pieces, some_bytes, blank, words, line_end}
use Rattle.mesh_reader.specs.Numerals.{numeral}
use Rattle.mesh_reader.specs.Reading.{exactly}
use Rattle.mesh_reader.specs.Scanning.{separates, in_word, front, behind, past_blanks, begins, at_word_end, rest_words, rest_numerals, SameLine, NextIf, NextMinus}

-- A line end is no blank.
pub end_not_blank : (b : ℕ) → line_end b ≡ true → blank b ≡ false
end_not_blank b e = ap blank (eqb-true b 10 e)

pub blank_not_end : (b : ℕ) → blank b ≡ true → line_end b ≡ false
blank_not_end b e = by (line_end b) refl
  where
    by : (t : Bool) → line_end b ≡ t → line_end b ≡ false
    by false h = h
    by true h = let z : true ≡ false = sym e ∙ end_not_blank b h in h ∙ z

-- A word goes on with a byte that does not separate.
pub front_on : (b : ℕ) (bs : List ℕ) → separates b ≡ false → front separates (b ∷ bs) ≡ b ∷ front separates bs
front_on b bs e = ap (λ t. cond t [] (b ∷ front separates bs)) e

pub behind_on : (b : ℕ) (bs : List ℕ) → separates b ≡ false → behind separates (b ∷ bs) ≡ behind separates bs
behind_on b bs e = ap (λ t. cond t (b ∷ bs) (behind separates bs)) e

pub front_end : (bs : List ℕ) → at_word_end bs ≡ true → front separates bs ≡ []
front_end [] e = refl
front_end (b ∷ bs) e = ap (λ t. cond t [] (b ∷ front separates bs)) e

-- Where no byte of a word is next, it has ended.
pub word_ends : (bs : List ℕ) → begins in_word bs ≡ false → at_word_end bs ≡ true
word_ends [] e = refl
word_ends (b ∷ bs) e = not-false (separates b) e

pub minus_next : (old new : List ℕ) (b : Option ℕ) → NextIf (λ b. b == 45) old b new → NextMinus old (is_some b) new
minus_next old new None e = e
minus_next old new (Some b) e = e.1 ∙ ap (λ (k : ℕ). k ∷ new) (eqb-true b 45 e.0)

pub behind_end : (bs : List ℕ) → at_word_end bs ≡ true → behind separates bs ≡ bs
behind_end [] e = refl
behind_end (b ∷ bs) e = ap (λ t. cond t (b ∷ bs) (behind separates bs)) e

front_behind : (stops : ℕ → Bool) (bs : List ℕ) → front stops bs ++ behind stops bs ≡ bs
front_behind stops [] = refl
front_behind stops (b ∷ bs) = by (stops b) (front_behind stops bs)
  where
    by : (t : Bool) → front stops bs ++ behind stops bs ≡ bs → cond t [] (b ∷ front stops bs) ++ cond t (b ∷ bs) (behind stops bs) ≡ b ∷ bs
    by true h = refl
    by false h = ap (λ (xs : List ℕ). b ∷ xs) h

pub front_length : (stops : ℕ → Bool) (bs : List ℕ) → length bs ≡ length (front stops bs) + length (behind stops bs)
front_length stops bs = ap length (sym (front_behind stops bs)) ∙ length-append (front stops bs) (behind stops bs)

-- No byte of the front is of the kind at which it stops.
pub unstopped : (stops : ℕ → Bool) (bs : List ℕ) → All (λ b. stops b ≡ false) (front stops bs)
unstopped stops [] = All-nil (λ b. stops b ≡ false)
unstopped stops (b ∷ bs) = by (stops b) refl (unstopped stops bs)
  where
    by : (t : Bool) → stops b ≡ t → All (λ c. stops c ≡ false) (front stops bs) → All (λ c. stops c ≡ false) (cond t [] (b ∷ front stops bs))
    by true e later = All-nil (λ c. stops c ≡ false)
    by false e later = All-cons (λ c. stops c ≡ false) b (front stops bs) e later

-- What stops at a line end stays within the line.
behind_line : (stops : ℕ → Bool) → ((b : ℕ) → line_end b ≡ true → stops b ≡ true) → (bs : List ℕ) → behind line_end (behind stops bs) ≡ behind line_end bs
behind_line stops h [] = refl
behind_line stops h (b ∷ bs) = by (stops b) (line_end b) refl refl (behind_line stops h bs)
  where
    by : (s e : Bool) → stops b ≡ s → line_end b ≡ e → behind line_end (behind stops bs) ≡ behind line_end bs → behind line_end (cond (stops b) (b ∷ bs) (behind stops bs)) ≡ behind line_end (b ∷ bs)
    by true e p q later = ap (λ t. behind line_end (cond t (b ∷ bs) (behind stops bs))) p
    by false true p q later = absurd (both_ways (stops b) p (h b q))
    by false false p q later =
        ap (λ t. behind line_end (cond t (b ∷ bs) (behind stops bs))) p ∙ later ∙ sym (ap (λ t. cond t (b ∷ bs) (behind line_end bs)) q)

up_to : (stops : ℕ → Bool) → ((b : ℕ) → line_end b ≡ true → stops b ≡ true) → (bs : List ℕ) → SameLine bs (behind stops bs)
up_to stops h bs = record { passed = front stops bs; later = sym (front_behind stops bs); stays = behind_line stops h bs }

pub same_further : (old at new : List ℕ) → SameLine old at → SameLine at new → SameLine old new
same_further old at new p q = record {
  passed = p.passed ++ q.passed;
  later = p.later ∙ ap (λ (xs : List ℕ). p.passed ++ xs) q.later ∙ sym (append_assoc p.passed q.passed new);
  stays = q.stays ∙ p.stays;
}

pub same_word : (bs : List ℕ) → SameLine bs (behind separates bs)
same_word = up_to separates (λ b e. ap (λ t. blank b || t) e ∙ or_true (blank b))
  where
    or_true : (t : Bool) → t || true ≡ true
    or_true true = refl
    or_true false = refl

pub same_byte : (b : ℕ) (bs : List ℕ) → separates b ≡ false → SameLine (b ∷ bs) bs
same_byte b bs e = record {
  passed = b ∷ [];
  later = refl;
  stays = sym (ap (λ t. cond t (b ∷ bs) (behind line_end bs)) (or_parts (blank b) (line_end b) e).1);
}

pub same_blanks : (bs : List ℕ) → SameLine bs (past_blanks bs)
same_blanks = up_to (λ b. not (blank b)) (λ b e. ap not (end_not_blank b e))

-- One blank on.
words_blank : (b : ℕ) (bs : List ℕ) → blank b ≡ true → words (b ∷ bs) ≡ words bs
words_blank b bs e = ap (filter some_bytes) (slice_split-cons_yes blank b bs e)

line_blank : (b : ℕ) (bs : List ℕ) → blank b ≡ true → rest_words (b ∷ bs) ≡ rest_words bs
line_blank b bs e = ap (λ t. words (cond t [] (b ∷ front line_end bs))) (blank_not_end b e) ∙ words_blank b (front line_end bs) e

pub words_past : (bs : List ℕ) → rest_words (past_blanks bs) ≡ rest_words bs
words_past [] = refl
words_past (b ∷ bs) = by (blank b) refl (words_past bs)
  where
    by : (t : Bool) → blank b ≡ t → rest_words (past_blanks bs) ≡ rest_words bs → rest_words (past_blanks (b ∷ bs)) ≡ rest_words (b ∷ bs)
    by true e later = ap (λ t. rest_words (cond (not t) (b ∷ bs) (past_blanks bs))) e ∙ later ∙ sym (line_blank b bs e)
    by false e later = ap (λ t. rest_words (cond (not t) (b ∷ bs) (past_blanks bs))) e

-- A word comes off the front of what is left of the line.
abbrev later_pieces : List ℕ → List (List ℕ)
later_pieces [] = []
later_pieces (b ∷ bs) = cond (blank b) (pieces blank (front line_end bs)) []

pieces_word : (bs : List ℕ) → pieces blank (front line_end bs) ≡ front separates bs ∷ later_pieces (behind separates bs)
pieces_word [] = refl
pieces_word (b ∷ bs) = by (blank b) (line_end b) refl refl (pieces_word bs)
  where
    by : (s e : Bool) → blank b ≡ s → line_end b ≡ e → pieces blank (front line_end bs) ≡ front separates bs ∷ later_pieces (behind separates bs)
        → pieces blank (cond (line_end b) [] (b ∷ front line_end bs)) ≡ cond (blank b || line_end b) [] (b ∷ front separates bs) ∷ later_pieces (cond (blank b || line_end b) (b ∷ bs) (behind separates bs))
    by true e s h later =
        ap (λ t. pieces blank (cond t [] (b ∷ front line_end bs))) (blank_not_end b s) ∙ slice_split-cons_yes blank b (front line_end bs) s
        ∙ sym (ap (λ t. cond (t || line_end b) [] (b ∷ front separates bs) ∷ later_pieces (cond (t || line_end b) (b ∷ bs) (behind separates bs))) s ∙ ap (λ t. [] ∷ cond t (pieces blank (front line_end bs)) []) s)
    by false true s h later =
        ap (λ t. pieces blank (cond t [] (b ∷ front line_end bs))) h
        ∙ sym (ap (λ t. cond (t || line_end b) [] (b ∷ front separates bs) ∷ later_pieces (cond (t || line_end b) (b ∷ bs) (behind separates bs))) s
        ∙ ap (λ t. cond t [] (b ∷ front separates bs) ∷ later_pieces (cond t (b ∷ bs) (behind separates bs))) h ∙ ap (λ t. [] ∷ cond t (pieces blank (front line_end bs)) []) s)
    by false false s h later =
        ap (λ t. pieces blank (cond t [] (b ∷ front line_end bs))) h ∙ slice_split-cons_no blank b (front line_end bs) s ∙ ap (onto_first b) later
        ∙ sym (ap (λ t. cond (t || line_end b) [] (b ∷ front separates bs) ∷ later_pieces (cond (t || line_end b) (b ∷ bs) (behind separates bs))) s
        ∙ ap (λ t. cond t [] (b ∷ front separates bs) ∷ later_pieces (cond t (b ∷ bs) (behind separates bs))) h)

later_words : (bs : List ℕ) → at_word_end bs ≡ true → filter some_bytes (later_pieces bs) ≡ words (front line_end bs)
later_words [] e = refl
later_words (b ∷ bs) e = by (blank b) refl (or_cases (blank b) (line_end b) e)
  where
    by : (s : Bool) → blank b ≡ s → (blank b ≡ true) ⊎ (line_end b ≡ true) → filter some_bytes (cond (blank b) (pieces blank (front line_end bs)) []) ≡ words (cond (line_end b) [] (b ∷ front line_end bs))
    by true s w =
        ap (λ t. filter some_bytes (cond t (pieces blank (front line_end bs)) [])) s
        ∙ sym (ap (λ t. words (cond t [] (b ∷ front line_end bs))) (blank_not_end b s) ∙ words_blank b (front line_end bs) s)
    by false s (inl w) = absurd (both_ways (blank b) s w)
    by false s (inr w) =
        ap (λ t. filter some_bytes (cond t (pieces blank (front line_end bs)) [])) s ∙ sym (ap (λ t. words (cond t [] (b ∷ front line_end bs))) w)

behind_ends : (bs : List ℕ) → at_word_end (behind separates bs) ≡ true
behind_ends [] = refl
behind_ends (b ∷ bs) = by (separates b) refl (behind_ends bs)
  where
    by : (t : Bool) → separates b ≡ t → at_word_end (behind separates bs) ≡ true → at_word_end (cond (separates b) (b ∷ bs) (behind separates bs)) ≡ true
    by true e later = ap (λ t. at_word_end (cond t (b ∷ bs) (behind separates bs))) e ∙ e
    by false e later = ap (λ t. at_word_end (cond t (b ∷ bs) (behind separates bs))) e ∙ later

pub word_first : (bs : List ℕ) → at_word_end bs ≡ false → words (front line_end bs) ≡ front separates bs ∷ words (front line_end (behind separates bs))
word_first [] e = absurd (both_ways true e refl)
word_first (b ∷ bs) e =
    ap (filter some_bytes) (pieces_word (b ∷ bs))
    ∙ ap (λ t. filter some_bytes (cond t [] (b ∷ front separates bs) ∷ later_pieces (behind separates (b ∷ bs)))) e
    ∙ ap (λ (ws : List (List ℕ)). (b ∷ front separates bs) ∷ ws) (later_words (behind separates (b ∷ bs)) (behind_ends (b ∷ bs)))
    ∙ sym (ap (λ t. cond t [] (b ∷ front separates bs) ∷ words (front line_end (behind separates (b ∷ bs)))) e)

-- Where no word begins behind the blanks, none is left.
pub no_word : (bs : List ℕ) → at_word_end (past_blanks bs) ≡ true → rest_words bs ≡ []
no_word [] e = refl
no_word (b ∷ bs) e = by (blank b) refl (no_word bs)
  where
    by : (t : Bool) → blank b ≡ t → (at_word_end (past_blanks bs) ≡ true → rest_words bs ≡ []) → rest_words (b ∷ bs) ≡ []
    by true s later = line_blank b bs s ∙ later (sym (ap (λ t. at_word_end (cond (not t) (b ∷ bs) (past_blanks bs))) s) ∙ e)
    by false s later = ends (or_cases (blank b) (line_end b) (sym (ap (λ t. at_word_end (cond (not t) (b ∷ bs) (past_blanks bs))) s) ∙ e))
      where
        ends : (blank b ≡ true) ⊎ (line_end b ≡ true) → rest_words (b ∷ bs) ≡ []
        ends (inl k) = absurd (both_ways (blank b) s k)
        ends (inr k) = ap (λ t. words (cond t [] (b ∷ front line_end bs))) k

-- The next word of the line.
pub none_next : (old at : List ℕ) → at ≡ past_blanks old → at_word_end at ≡ true → rest_numerals old ≡ []
none_next old at p e = ap (map numeral) (no_word old (ap at_word_end (sym p) ∙ e))

pub one_next : (old at new : List ℕ) (n : Option Numeral) → at ≡ past_blanks old → at_word_end at ≡ false → new ≡ behind separates at → n ≡ numeral (front separates at) → rest_numerals old ≡ n ∷ rest_numerals new
one_next old at new n p e q v =
    ap (map numeral) (sym (words_past old) ∙ ap rest_words (sym p) ∙ word_first at e ∙ ap (λ (xs : List ℕ). front separates at ∷ rest_words xs) (sym q))
    ∙ ap (λ (m : Option Numeral). m ∷ rest_numerals new) (sym v)

pub blanks_off : (old at : List ℕ) → at ≡ past_blanks old → SameLine old at
blanks_off old at p = subst (SameLine old) (sym p) (same_blanks old)

pub byte_off : (old at new : List ℕ) (b : ℕ) → at ≡ past_blanks old → separates b ≡ false → at ≡ b ∷ new → SameLine old new
byte_off old at new b p e q = same_further old at new (blanks_off old at p) (subst (λ (xs : List ℕ). SameLine xs new) (sym q) (same_byte b new e))

pub word_off : (old at new : List ℕ) → at ≡ past_blanks old → new ≡ behind separates at → SameLine old new
word_off old at new p q = same_further old at new (blanks_off old at p) (subst (SameLine at) (sym q) (same_word at))

-- One word more is read.
pub read_more : {A : Type 0} → (i : ℕ) (ws all rest more : List A) (w : A) → i < length ws → all ≡ take i ws ++ rest → rest ≡ w ∷ more → all ≡ take (i + 1) (set ws i w) ++ more
read_more {A} i ws all rest more w h is e =
    is ∙ ap (λ (xs : List A). take i ws ++ xs) e ∙ sym (ap (λ (xs : List A). xs ++ more) (take_more_set ws i w h) ∙ append_assoc (take i ws) (w ∷ []) more)

-- N words were read: with what follows them, these are all of the words.
module _ {A : Type 0} (n i : ℕ) (ws all rest : List A) (i_end : i ≤ n) (done : n ≤ i) (size : length ws ≡ n) (is : all ≡ take i ws ++ rest) where
  whole : all ≡ ws ++ rest
  whole = is ∙ ap (λ (xs : List A). xs ++ rest) (take_all i ws (omega arith))

  pub all_read : rest ≡ [] → exactly n all ≡ Some ws
  all_read e =
      let w : all ≡ ws = whole ∙ ap (λ (xs : List A). ws ++ xs) e ∙ append-nil ws in
      ap (exactly n) w ∙ ap (λ t. cond t (Some ws) None) (eq-eqb (length ws) n size)

  pub more_left : (w : A) (more : List A) → rest ≡ w ∷ more → exactly n all ≡ None
  more_left w more e =
      let l : length all ≡ length ws + length rest = ap length whole ∙ length-append ws rest in
      let m : length rest ≡ suc (length more) = ap length e in
      ap (λ t. cond t (Some all) None) (ne_eqb (length all) n (λ z. omega arith))
