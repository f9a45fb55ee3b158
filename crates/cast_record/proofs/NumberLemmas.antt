-- A number has one word, and a word at most one number.
use Rattle.std.proofs.Common.{◌≡◌, ℕ, zero, suc, ◌+◌, ◌-◌, ◌*◌, ◌^◌, ◌<◌, ◌≤◌, true, List, [], ◌∷◌, length, get_or, decimal, Option, Some, None, refl, sym, ap, ◌∙◌, arith, rules, drop, drop-cons}
use Rattle.std.specs.Str.{all_ascii_digits}
use Rattle.std.proofs.lemmas.Str.Parse.{IsNumeralModel, numerals_by_fold}
use Rattle.std.proofs.lemmas.Fmt.{digits_decimal, digits_value-decimal, decimal_nonempty, decimal_digit, first_decimal, decimal-digits_value}
use Rattle.std.proofs.lemmas.Bool.Decides.{nat_tests}
use Rattle.cast_record.specs.Numbers.{read_on, value_of, number_of, IsWordOf}

pub own : IsNumeralModel (λ ds. all_ascii_digits ds ≡ true) (read_on 0)
own = numerals_by_fold _ (search rules) read_on (search rules)

pub read_on_grows : (n : ℕ) (ds : List ℕ) → n ≤ read_on n ds
read_on_grows n [] = omega arith
read_on_grows n (c ∷ cs) = omega (arith, read_on_grows (10 * n + (c - 48)) cs)

drop_digit : (value i : ℕ) (w : List ℕ) → i < length w → read_on value (drop i w) ≡ read_on (10 * value + (get_or w i 0 - 48)) (drop (suc i) w)
drop_digit value i w within = ap (read_on value) (drop-cons w i 0 within)

none_past : (w : List ℕ) → 2 ^ 64 ≤ read_on 0 w → value_of w ≡ None
none_past w past = grind (arith, nat_tests)

-- what is too large after some digits is too large
pub too_large : (value i : ℕ) (w : List ℕ) → read_on value (drop i w) ≡ read_on 0 w → i < length w → 2 ^ 64 ≤ value * 10 + (get_or w i 0 - 48) → value_of w ≡ None
too_large value i w e within large =
    let more = drop_digit value i w within in
    let grows = read_on_grows (10 * value + (get_or w i 0 - 48)) (drop (suc i) w) in
    let past : 2 ^ 64 ≤ read_on 0 w = omega (arith, more, e, grows) in
    none_past w past

pub value_from : (w : List ℕ) (n : ℕ) → all_ascii_digits w ≡ true → read_on 0 w ≡ n → n < 2 ^ 64 → value_of w ≡ Some n
value_from w n digits value fits = grind (arith, nat_tests)

-- the digits, their value and its bound
abbrev Means : List ℕ → ℕ → Type 0
Means w n = (all_ascii_digits w ≡ true) × (read_on 0 w ≡ n) × (n < 2 ^ 64)

value_means : (w : List ℕ) (n : ℕ) → value_of w ≡ Some n → Means w n
value_means w n e = grind (arith, nat_tests)

pub number_from : (w : List ℕ) (n : ℕ) → 0 < length w → (2 ≤ length w → get_or w 0 0 ≡ 48 → ⊥) → all_ascii_digits w ≡ true → read_on 0 w ≡ n → n < 2 ^ 64 → number_of w ≡ Some n
number_from [] n some first digits value fits = absurd (omega arith)
number_from (c ∷ []) n some first digits value fits = value_from (c ∷ []) n digits value fits
number_from (c ∷ d ∷ ds) n some first digits value fits =
    let value_is = value_from (c ∷ d ∷ ds) n digits value fits in
    let other = first (omega arith) in
    grind (arith, nat_tests)

-- a numeral of two digits has no zero in front
one_zero : (n : ℕ) → n < 2 ^ 64 → 2 ≤ length (decimal n) → get_or (decimal n) 0 0 ≡ 48 → ⊥
one_zero zero fits two first = let one = ap length (decimal_digit 0 (omega arith)) in omega (arith, one)
one_zero (suc n) fits two first = let above = first_decimal (suc n) (omega arith) fits in omega arith

pub number_again : (n : ℕ) → n < 2 ^ 64 → number_of (decimal n) ≡ Some n
number_again n fits = number_from (decimal n) n (decimal_nonempty n fits) (one_zero n fits) (digits_decimal own n fits) (digits_value-decimal own n fits) fits

is_decimal : (w : List ℕ) (n : ℕ) → Means w n → 0 < length w → (get_or w 0 0 ≡ 48 → length w ≡ 1) → (w ≡ decimal n) × (n < 2 ^ 64)
is_decimal w n m some long =
    let word : decimal (read_on 0 w) ≡ w = decimal-digits_value own w m.0 some long (rw m.1 m.2) in
    (sym word ∙ ap decimal m.1, m.2)

pub number_takes : (w : List ℕ) (n : ℕ) → number_of w ≡ Some n → (w ≡ decimal n) × (n < 2 ^ 64)
number_takes [] n e = absurd (cc)
number_takes (c ∷ []) n e = is_decimal (c ∷ []) n (value_means (c ∷ []) n e) (omega arith) (λ h. refl)
number_takes (c ∷ d ∷ ds) n e =
    let both : (c ≡ 48 → ⊥) × (value_of (c ∷ d ∷ ds) ≡ Some n) = grind (arith, nat_tests) in
    is_decimal (c ∷ d ∷ ds) n (value_means (c ∷ d ∷ ds) n both.1) (omega arith) (λ h. absurd (both.0 h))

pub is_word : (w : List ℕ) (o : Option ℕ) → o ≡ number_of w → IsWordOf o w
is_word w None e = λ n fits same. absurd (cc (e, ap number_of same, number_again n fits))
is_word w (Some n) e = (number_takes w n (sym e)).0
