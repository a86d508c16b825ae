-- What the digits at the front of a word say of the whole word.
use Rattle.std.proofs.Common.{◌≡◌, ℕ, zero, suc, ◌+◌, ◌-◌, ◌*◌, ◌^◌, ◌<◌, ◌≤◌, Bool, true, false, cond, ◌&&◌, leb, ◌⊎◌, List, [], ◌∷◌, length, Some, None, sym, refl, ap, ◌∙◌, subst, inl, inr, add-one, arith}
use native.Mathlib.Nat.{pow-succ', pow-le-pow_right}
use Rattle.std.proofs.lemmas.Bool.{both_ways, leb-true, and_parts, or_from, ne_eqb, le-leb, lt-leb, and_from, and_left, and_right}
use Rattle.mesh_reader.specs.Text.{some_bytes, blank}
use Rattle.mesh_reader.specs.Numerals.{digit, all_digits, value, magnitude}
use Rattle.mesh_reader.specs.Scanning.{separates, front, behind, at_word_end, leading}
use Rattle.mesh_reader.proofs.Words.{front_on, behind_on, front_end, behind_end}

pub digit_from : (b : ℕ) → digit b ≡ true → 48 ≤ b
digit_from b e = leb-true 48 b (and_parts (leb 48 b) (leb b 57) e).0

pub digit_to : (b : ℕ) → digit b ≡ true → b ≤ 57
digit_to b e = leb-true b 57 (and_parts (leb 48 b) (leb b 57) e).1

-- One digit more.
pub value_more : (v n d : ℕ) → v < 10 ^ n → d ≤ 9 → 10 * v + d < 10 ^ (n + 1)
value_more v n d h k = let p : 10 ^ (n + 1) ≡ 10 * 10 ^ n = ap (λ (k : ℕ). 10 ^ k) (add-one n) ∙ pow-succ' 10 n in omega arith

pub more_fits : (v n d most : ℕ) → v < 10 ^ n → n < most → most ≤ 9 → d ≤ 9 → 10 * v + d < 1000000000
more_fits v n d most h k l m =
    let p : 10 ^ (n + 1) ≤ 10 ^ 9 = pow-le-pow_right {n = 10} (omega arith) {i = n + 1} {j = 9} (omega arith) in
    let q = value_more v n d h m in
    omega arith

leading_more : (n high b : ℕ) (bs : List ℕ) → digit b ≡ true → leading (suc n) high (b ∷ bs) ≡ leading n (10 * high + (b - 48)) bs
leading_more n high b bs e = ap (λ t. cond t (leading n (10 * high + (b - 48)) bs) (high, b ∷ bs)) e

pub digit_read : (i most v d b : ℕ) (at new : List ℕ) → i < most → digit b ≡ true → d ≡ b - 48 → at ≡ b ∷ new → leading (most - (i + 1)) (10 * v + d) new ≡ leading (most - i) v at
digit_read i most v d b at new h e is old =
    let n : ℕ = most - (i + 1) in
    let s : suc n ≡ most - i = omega arith in
    ap (λ (x : ℕ). leading n (10 * v + x) new) is ∙ sym (leading_more n v b new e) ∙ ap (λ (k : ℕ). leading k v (b ∷ new)) s ∙ ap (leading (most - i) v) (sym old)

pub digit_in_word : (b : ℕ) → digit b ≡ true → separates b ≡ false
digit_in_word b e =
    let from = digit_from b e in
    or_from (blank b) _ (or_from _ _ (or_from _ _ (ne_eqb b 32 (λ z. omega arith)) (ne_eqb b 9 (λ z. omega arith))) (ne_eqb b 13 (λ z. omega arith))) (ne_eqb b 10 (λ z. omega arith))

-- whether the next byte is one more digit
abbrev step : ℕ → ℕ → ℕ → List ℕ → Bool → ℕ × List ℕ
step n high b bs t = cond t (leading n (10 * high + (b - 48)) bs) (high, b ∷ bs)

-- The leading digits are the whole word, or they are not.
record Whole (n high : ℕ) (bs : List ℕ) (v : ℕ) (rest : List ℕ) : Type 0 where
  few : length (front separates bs) ≤ n
  digits : all_digits (front separates bs) ≡ true
  says : value high (front separates bs) ≡ v
  left : behind separates bs ≡ rest

record Partial (n : ℕ) (bs rest : List ℕ) : Type 0 where
  other : (n < length (front separates bs)) ⊎ (all_digits (front separates bs) ≡ false)
  left : behind separates rest ≡ behind separates bs

whole_end : (n high : ℕ) (bs : List ℕ) → at_word_end bs ≡ true → Whole n high bs high bs
whole_end n high bs e =
    let f = front_end bs e in
    record {
      few = let z : length (front separates bs) ≡ 0 = ap length f in omega arith;
      digits = ap all_digits f;
      says = ap (value high) f;
      left = behind_end bs e;
    }

whole : (n high : ℕ) (bs : List ℕ) → at_word_end (leading n high bs).1 ≡ true → Whole n high bs (leading n high bs).0 (leading n high bs).1
whole zero high bs e = whole_end 0 high bs e
whole (suc n) high [] e = whole_end (suc n) high [] e
whole (suc n) high (b ∷ bs) e = by (digit b) refl (whole n (10 * high + (b - 48)) bs)
  where
    to : (t : Bool) → digit b ≡ t → Whole (suc n) high (b ∷ bs) (step n high b bs t).0 (step n high b bs t).1 → Whole (suc n) high (b ∷ bs) (step n high b bs (digit b)).0 (step n high b bs (digit b)).1
    to t d w = subst (λ s. Whole (suc n) high (b ∷ bs) (step n high b bs s).0 (step n high b bs s).1) (sym d) w

    by : (t : Bool) → digit b ≡ t
        → (at_word_end (leading n (10 * high + (b - 48)) bs).1 ≡ true → Whole n (10 * high + (b - 48)) bs (leading n (10 * high + (b - 48)) bs).0 (leading n (10 * high + (b - 48)) bs).1)
        → Whole (suc n) high (b ∷ bs) (step n high b bs (digit b)).0 (step n high b bs (digit b)).1
    by true d later =
        let w = later (sym (ap (λ t. at_word_end (step n high b bs t).1) d) ∙ e) in
        let f = front_on b bs (digit_in_word b d) in
        to true d (record {
          few = let k : length (front separates (b ∷ bs)) ≡ suc (length (front separates bs)) = ap length f in let m = w.few in omega arith;
          digits = ap all_digits f ∙ and_from (digit b) (all_digits (front separates bs)) d w.digits;
          says = ap (value high) f ∙ w.says;
          left = behind_on b bs (digit_in_word b d) ∙ w.left;
        })
    by false d later = to false d (whole_end (suc n) high (b ∷ bs) (sym (ap (λ t. at_word_end (step n high b bs t).1) d) ∙ e))

partial : (n high : ℕ) (bs : List ℕ) → at_word_end (leading n high bs).1 ≡ false → Partial n bs (leading n high bs).1
partial zero high [] e = absurd (both_ways true e refl)
partial zero high (b ∷ bs) e = record {
  other = inl (let k : length (front separates (b ∷ bs)) ≡ suc (length (front separates bs)) = ap length (front_on b bs e) in omega arith);
  left = refl;
}
partial (suc n) high [] e = absurd (both_ways true e refl)
partial (suc n) high (b ∷ bs) e = by (digit b) refl (partial n (10 * high + (b - 48)) bs)
  where
    longer : (n < length (front separates bs)) ⊎ (all_digits (front separates bs) ≡ false) → front separates (b ∷ bs) ≡ b ∷ front separates bs → (suc n < length (front separates (b ∷ bs))) ⊎ (all_digits (front separates (b ∷ bs)) ≡ false)
    longer (inl h) f = inl (let k : length (front separates (b ∷ bs)) ≡ suc (length (front separates bs)) = ap length f in omega arith)
    longer (inr h) f = inr (ap all_digits f ∙ and_right (digit b) (all_digits (front separates bs)) h)

    by : (t : Bool) → digit b ≡ t
        → (at_word_end (leading n (10 * high + (b - 48)) bs).1 ≡ false → Partial n bs (leading n (10 * high + (b - 48)) bs).1)
        → Partial (suc n) (b ∷ bs) (step n high b bs (digit b)).1
    by true d later =
        let p = later (sym (ap (λ t. at_word_end (step n high b bs t).1) d) ∙ e) in
        subst (λ t. Partial (suc n) (b ∷ bs) (step n high b bs t).1) (sym d) (record {
          other = longer p.other (front_on b bs (digit_in_word b d));
          left = p.left ∙ sym (behind_on b bs (digit_in_word b d));
        })
    by false d later =
        let s : separates b ≡ false = sym (ap (λ t. at_word_end (step n high b bs t).1) d) ∙ e in
        subst (λ t. Partial (suc n) (b ∷ bs) (step n high b bs t).1) (sym d) (record {
          other = inr (ap all_digits (front_on b bs s) ∙ and_left (digit b) (all_digits (front separates bs)) d);
          left = refl;
        })

pub magnitude_none : (bs : List ℕ) → at_word_end bs ≡ true → magnitude (front separates bs) ≡ None
magnitude_none bs e = ap magnitude (front_end bs e)

module _ (bs rest : List ℕ) (v : ℕ) (e : leading 9 0 bs ≡ (v, rest)) where
  says_whole : at_word_end rest ≡ true → Whole 9 0 bs v rest
  says_whole g = subst (λ (p : ℕ × List ℕ). Whole 9 0 bs p.0 p.1) e (whole 9 0 bs (ap (λ (p : ℕ × List ℕ). at_word_end p.1) e ∙ g))

  pub word_passed : at_word_end rest ≡ true → rest ≡ behind separates bs
  word_passed g = sym (says_whole g).left

  pub magnitude_whole : at_word_end bs ≡ false → at_word_end rest ≡ true → magnitude (front separates bs) ≡ Some v
  magnitude_whole h g =
      let w = front separates bs in
      let k = says_whole g in
      ap (λ t. cond t (Some (value 0 w)) None) (and_from (some_bytes w) _ (some_in_word bs h) (and_from (leb (length w) 9) (all_digits w) (le-leb (length w) 9 k.few) k.digits)) ∙ ap Some k.says
    where
      some_in_word : (bs : List ℕ) → at_word_end bs ≡ false → some_bytes (front separates bs) ≡ true
      some_in_word [] h = absurd (both_ways true h refl)
      some_in_word (b ∷ bs) h = ap some_bytes (front_on b bs h)

  says_partial : at_word_end rest ≡ false → Partial 9 bs rest
  says_partial g = subst (λ (p : ℕ × List ℕ). Partial 9 bs p.1) e (partial 9 0 bs (ap (λ (p : ℕ × List ℕ). at_word_end p.1) e ∙ g))

  pub word_goes_on : at_word_end rest ≡ false → behind separates rest ≡ behind separates bs
  word_goes_on g = (says_partial g).left

  pub magnitude_partial : at_word_end rest ≡ false → magnitude (front separates bs) ≡ None
  magnitude_partial g =
      let w = front separates bs in
      ap (λ t. cond t (Some (value 0 w)) None) (and_right (some_bytes w) (leb (length w) 9 && all_digits w) (by w (says_partial g).other))
    where
      by : (w : List ℕ) → (9 < length w) ⊎ (all_digits w ≡ false) → leb (length w) 9 && all_digits w ≡ false
      by w (inl h) = and_left (leb (length w) 9) (all_digits w) (lt-leb (length w) 9 h)
      by w (inr h) = and_right (leb (length w) 9) (all_digits w) h
