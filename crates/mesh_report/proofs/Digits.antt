-- The digits of a number.
use Rattle.std.proofs.Common.{◌≡◌, ℕ, zero, suc, ◌+◌, ◌/◌, ◌%◌, ◌^◌, ◌<◌, ◌≤◌, Bool, true, false, eqb, List, [], ◌∷◌, ◌++◌, length, refl, ap, ◌∙◌, ⊎_elim, pow-suc, arith}
use Rattle.std.specs.Prelude.{decimal}
use Rattle.std.proofs.lemmas.Fmt.{decimal_by_steps}
use Rattle.std.proofs.lemmas.List.{length_push}
use Rattle.std.proofs.lemmas.Bool.{eq-eqb, ne_eqb, eqb-false, cases_eq}
use Rattle.mesh_report.specs.Spelling.{spelled, spelled_in}

abbrev front : Bool → List ℕ → List ℕ
front b digits = elim b as (λ b. List ℕ) [ true ↦ [] | false ↦ digits ]

falls : (n t : ℕ) → eqb (n / 10) 0 ≡ false → n < suc t → n / 10 < t
falls n t e h = let f = eqb-false (n / 10) 0 e in omega arith

same_front : (b : Bool) (x y : List ℕ) → (b ≡ false → x ≡ y) → front b x ≡ front b y
same_front true x y h = refl
same_front false x y h = h refl

-- any bound above the number will do
same_in : (t u n : ℕ) → n < t → n < u → spelled_in t n ≡ spelled_in u n
same_in zero u n h k = absurd (omega arith)
same_in (suc t) zero n h k = absurd (omega arith)
same_in (suc t) (suc u) n h k =
    ap (λ (ds : List ℕ). ds ++ ((48 + n % 10) ∷ []))
    (same_front (eqb (n / 10) 0) (spelled_in t (n / 10)) (spelled_in u (n / 10)) (λ e. same_in t u (n / 10) (falls n t e h) (falls n u e k)))

-- The quotient by ten is zero, or it is not.
pub spelled_one : (n : ℕ) → n / 10 ≡ 0 → spelled n ≡ (48 + n % 10) ∷ []
unfolding spelled
spelled_one n e = ap (λ (b : Bool). front b (spelled_in n (n / 10)) ++ ((48 + n % 10) ∷ [])) (eq-eqb (n / 10) 0 e)

pub spelled_more : (n : ℕ) → (n / 10 ≡ 0 → ⊥) → spelled n ≡ spelled (n / 10) ++ ((48 + n % 10) ∷ [])
unfolding spelled
spelled_more n e =
    ap (λ (b : Bool). front b (spelled_in n (n / 10)) ++ ((48 + n % 10) ∷ [])) (ne_eqb (n / 10) 0 e)
    ∙ ap (λ (ds : List ℕ). ds ++ ((48 + n % 10) ∷ [])) (same_in n (suc (n / 10)) (n / 10) (omega arith) (omega arith))

pub length_one : (n : ℕ) → n / 10 ≡ 0 → length (spelled n) ≡ 1
length_one n e = ap length (spelled_one n e)

pub length_more : (n : ℕ) → (n / 10 ≡ 0 → ⊥) → length (spelled n) ≡ length (spelled (n / 10)) + 1
length_more n e = ap length (spelled_more n e) ∙ length_push (spelled (n / 10)) (48 + n % 10)

-- The library's decimal digits.
pub spelled_is_decimal : (n : ℕ) → n < 2 ^ 64 → spelled n ≡ decimal n
spelled_is_decimal = decimal_by_steps (λ m ds. spelled m ≡ ds) (λ m l. spelled_one m (omega arith) ∙ ap (λ d. (48 + d) ∷ []) (omega arith)) (λ m ds l e. spelled_more m (λ z. omega arith) ∙ ap (λ (d : List ℕ). d ++ ((48 + m % 10) ∷ [])) e)

-- A number below 10 to the power k + 1 has k + 1 digits at the most.
pub most_digits : (k n : ℕ) → n < 10 ^ suc k → length (spelled n) ≤ suc k
most_digits zero n h = let e = length_one n (omega arith) in omega arith
most_digits (suc k) n h =
    let fewer : n / 10 < 10 ^ suc k = omega (arith, pow-suc 10 (suc k)) in
    ⊎_elim
    (λ z. let e = length_one n z in omega arith)
    (λ z. let e = length_more n z in let m = most_digits k (n / 10) fewer in omega arith)
    (cases_eq (n / 10) 0)

-- The numbers of 32 bits, and how far from 0 those of 64 bits are.
pub digits_of_count : (n : ℕ) → n < 2 ^ 32 → length (spelled n) ≤ 10
digits_of_count n h = most_digits 9 n (omega arith)

pub digits_of_distance : (n : ℕ) → n ≤ 2 ^ 63 → length (spelled n) ≤ 19
digits_of_distance n h = most_digits 18 n (omega arith)
