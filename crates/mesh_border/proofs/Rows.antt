-- Rows of bits, and the lists that they give.
use Rattle.std.proofs.Common.{◌≡◌, ℕ, ◌+◌, ◌*◌, ◌/◌, ◌%◌, ◌^◌, ◌<◌, ◌≤◌, Bool, true, false, ◌&&◌, ◌||◌, eqb, List, [], ◌∷◌, Option, None, length, get_or, take, set, sym, ap, ◌∙◌, inl, inr, arith, w64}
use Rattle.std.proofs.Math.ListN.{replicate}
use Rattle.std.proofs.lemmas.Bool.{cases_eq, cases_lt, ne_eqb, eq-eqb, or_right}
use Rattle.std.proofs.lemmas.List.{get_or-set_same, get_or-set_other, get_or-replicate, get_or_past, length-replicate, take_more_set}
use Rattle.std.proofs.lemmas.Grind.{get_or-set_at}
use Rattle.std.proofs.lemmas.List.Folds.{list_any-append}
use Rattle.std.proofs.lemmas.Nat.{and_le_l}
use Rattle.std.proofs.lemmas.Nat.Bits.{bit_at_set_same, bit_at_set_other, bit_at_clear_same, bit_at_clear_other, bit_at-trailing_zeros}
use Rattle.std.specs.Prelude.{bit_and, bit_or}
use Rattle.std.specs.Int.{bit_at, bit_not, trailing_zeros}
use Rattle.mesh_stream.specs.Lists.{has}
use Rattle.mesh_stream.proofs.Having.{has_left, has_self}
use Rattle.mesh_border.specs.FreeRows.{FreeRows}

-- so many times no value
abbrev pub nones : (A : Type 0) → ℕ → List (Option A)
nones A n = replicate n None

pub none_each : (A : Type 0) (n i : ℕ) → get_or (nones A n) i None ≡ None
none_each A n i =
    elim (cases_lt i n)
    [ inl lt ↦ get_or-replicate n i None None lt | inr ge ↦ get_or_past (nones A n) i None (rw length-replicate ge) ]

-- All rows are free at first.
pub all_free : (rows : List ℕ) → ((k : ℕ) → k < 1024 → get_or rows k 0 ≡ k) → FreeRows (nones ℕ 1024) rows 1024
all_free rows at = record {
  few = omega arith;
  inside = λ k lt. omega (arith, at k lt);
  bare = λ k lt. none_each ℕ 1024 (get_or rows k 0);
  distinct = λ j k lt within e. omega (arith, at j (omega arith), at k within);
}

-- Each row has 16 words at first.
pub all_wide : (r : ℕ) → r < 1024 → length {A = ℕ} (get_or (replicate 1024 (replicate 16 0)) r []) ≡ 16
all_wide r lt =
    let words : List ℕ = replicate 16 0 in
    ap length (get_or-replicate 1024 r words [] lt) ∙ length-replicate {A = ℕ} 16 0

-- A bit stays where it is not the one that was set, and is set there.
stays : (new old here : Bool) → here ≡ false → new ≡ old → new ≡ (old || here)
stays new true here h e = e
stays new false here h e = e ∙ sym h

is_set : (new old here : Bool) → here ≡ true → new ≡ true → new ≡ (old || here)
is_set new true here h e = e
is_set new false here h e = e ∙ sym h

-- a bit of a row, whose words have 64 bits, and the row with a bit set
abbrev pub bit_of : List ℕ → ℕ → Bool
bit_of words c = eqb (bit_at (get_or words (c / 64) 0) (c % 64)) 1

abbrev pub with_bit : List ℕ → ℕ → List ℕ
with_bit words column = set words (column / 64) (bit_or (get_or words (column / 64) 0) (1 * 2 ^ (column % 64) % 2 ^ 64))

module _ (words : List ℕ) (column : ℕ) (inside : column / 64 < length words) where
  abbrev new_word : ℕ
  new_word = bit_or (get_or words (column / 64) 0) (1 * 2 ^ (column % 64) % 2 ^ 64)

  set_bit : bit_of (with_bit words column) column ≡ true
  set_bit =
      ap (λ w. eqb (bit_at w (column % 64)) 1) (get_or-set_same words (column / 64) new_word 0 inside)
      ∙ ap (λ b. eqb b 1) (bit_at_set_same w64 (get_or words (column / 64) 0) (column % 64) (omega arith))

  other_bit : (c : ℕ) → (c ≡ column → ⊥) → bit_of (with_bit words column) c ≡ bit_of words c
  other_bit c ne =
      elim (cases_eq (c / 64) (column / 64)) [
        | inr apart ↦ ap (λ w. eqb (bit_at w (c % 64)) 1) (get_or-set_other words (column / 64) (c / 64) new_word 0 apart)
        | inl same ↦
            ap (λ w. eqb (bit_at w (c % 64)) 1) (get_or-set_at words (column / 64) (c / 64) new_word 0 same inside)
            ∙ ap (λ b. eqb b 1) (bit_at_set_other w64 (get_or words (column / 64) 0) (column % 64) (omega arith) (c % 64) (omega arith))
            ∙ ap (λ n. eqb (bit_at (get_or words n 0) (c % 64)) 1) (sym same)
      ]

  row_bits : (c : ℕ) → bit_of (with_bit words column) c ≡ (bit_of words c || eqb c column)
  row_bits c =
      elim (cases_eq c column) [
        | inl here ↦ is_set _ _ _ (eq-eqb c column here) (ap (bit_of (with_bit words column)) here ∙ set_bit)
        | inr ne ↦ stays _ _ _ (ne_eqb c column ne) (other_bit c ne)
      ]

-- The row with the bit is written back among the rows.
pub all_bits : (rows : List (List ℕ)) (row column : ℕ) → row < length rows → column / 64 < length (get_or rows row []) → (r c : ℕ)
    → bit_of (get_or (set rows row (with_bit (get_or rows row []) column)) r []) c
    ≡ (bit_of (get_or rows r []) c || (eqb r row && eqb c column))
all_bits rows row column in_rows in_row r c =
    let words : List ℕ = get_or rows row [] in
    elim (cases_eq r row) [
      | inl here ↦
          ap (λ (ws : List ℕ). bit_of ws c) (get_or-set_at rows row r (with_bit words column) [] here in_rows)
          ∙ row_bits words column in_row c
          ∙ ap (λ n. bit_of (get_or rows n []) c || eqb c column) (sym here)
          ∙ ap (λ b. bit_of (get_or rows r []) c || (b && eqb c column)) (sym (eq-eqb r row here))
      | inr ne ↦
          stays _ _ _ (ap (λ b. b && eqb c column) (ne_eqb r row ne))
          (ap (λ (ws : List ℕ). bit_of ws c) (get_or-set_other rows row r (with_bit words column) [] ne))
    ]

-- An entry is put behind the first `count` of a list, where there is room.
module _ (list : List ℕ) (count entry : ℕ) (room : count < length list) where
  pub listed_before : (v : ℕ) → has v (take count list) ≡ true → has v (take (count + 1) (set list count entry)) ≡ true
  listed_before v h = ap (has v) (take_more_set list count entry room) ∙ has_left v (take count list) (entry ∷ []) h

  pub listed_now : (v : ℕ) → entry ≡ v → has v (take (count + 1) (set list count entry)) ≡ true
  listed_now v e =
      ap (has v) (take_more_set list count entry room)
      ∙ list_any-append (eqb v) (take count list) (entry ∷ [])
      ∙ or_right (has v (take count list)) _ (ap (λ x. has v (x ∷ [])) e ∙ has_self v [])

-- The lowest bit of a word is taken out of it.
pub record Taken (left next bit : ℕ) : Type 0 where
  pub inside : bit < 64
  pub was : bit_at left bit ≡ 1
  pub less : next < left
  pub others : (j : ℕ) → j < 64 → (j ≡ bit → ⊥) → bit_at next j ≡ bit_at left j
  pub none_below : (j : ℕ) → j < bit + 1 → bit_at next j ≡ 0

pub lowest_taken : (left : ℕ) → 0 < left → left < 2 ^ 64
    → let bit = trailing_zeros w64 left in Taken left (bit_and left (bit_not w64 (1 * 2 ^ bit % 2 ^ 64))) bit
lowest_taken left some fits =
    let bit : ℕ = trailing_zeros w64 left in
    let next : ℕ = bit_and left (bit_not w64 (1 * 2 ^ bit % 2 ^ 64)) in
    let lowest = bit_at-trailing_zeros w64 left some fits in
    let gone : bit_at next bit ≡ 0 = bit_at_clear_same w64 left bit lowest.0 in
    let rest : (j : ℕ) → j < 64 → (j ≡ bit → ⊥) → bit_at next j ≡ bit_at left j =
    λ j lt ne. bit_at_clear_other w64 left bit lowest.0 j lt ne in
    record {
      inside = lowest.0;
      was = lowest.1;
      less =
          elim (cases_eq next left) [
            | inl same ↦
                let e : bit_at next bit ≡ bit_at left bit = ap (λ w. bit_at w bit) same in
                absurd (omega (arith, lowest.1))
            | inr ne ↦ omega (arith, and_le_l left (bit_not w64 (1 * 2 ^ bit % 2 ^ 64)))
          ];
      others = rest;
      none_below = λ j lt.
          elim (cases_eq j bit) [
            | inl e ↦ ap (bit_at next) e ∙ gone
            | inr ne ↦ rest j (omega (arith, lowest.0)) ne ∙ lowest.2 j (omega arith)
          ];
    }

-- Where the bits of the entries so far are taken, there are no more entries than the place of a bit that is left.
pub few_before : (first count left bit : ℕ) → bit_at left bit ≡ 1 → ((i : ℕ) → first + i < count → bit_at left i ≡ 0)
    → count ≤ first + bit
few_before first count left bit here taken =
    elim (cases_lt (first + bit) count) [ inl lt ↦ absurd (omega (arith, taken bit lt, here)) | inr le ↦ le ]
