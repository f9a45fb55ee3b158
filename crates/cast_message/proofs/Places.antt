-- The bits of a list of words, one of them set.
use Rattle.std.specs.Prelude.{◌≡◌, ◌≢◌, ℕ, zero, suc, ◌*◌, ◌/◌, ◌%◌, ◌^◌, ◌<◌, nat_eq, false, not, ◌&&◌, ◌||◌, List, [], ◌∷◌, length, slice_index, slice_set, bit_and, bit_or, refl}
use Rattle.std.specs.Int.{bit_at, bit_not, w64}
use Rattle.std.proofs.Common.{inl, inr, sym, ap, ◌∙◌, arith}
use Rattle.std.proofs.lemmas.Bool.Decides.{eqb_tells}
use Rattle.std.proofs.lemmas.Grind.{get_or-set_at}
use Rattle.std.proofs.lemmas.List.{get_or-set_other}
use Rattle.std.proofs.lemmas.Nat.Bits.{shr_and_one, bit_at-zero, bit_at_set_same, bit_at_set_other, bit_at_clear_same, bit_at_clear_other}
use Rattle.std.proofs.lemmas.Bool.{eq-eqb, ne_eqb}
use Rattle.cast_message.specs.Bits.{is_set}

-- the words with the bit of a place set
abbrev pub with_place : List ℕ → ℕ → List ℕ
with_place words k = slice_set words (k / 64) (bit_or (slice_index words (k / 64)) (1 * 2 ^ (k % 64) % 2 ^ 64))

pub is_set-with_place : (words : List ℕ) (k q : ℕ) → k < 64 * length words → is_set (with_place words k) q ≡ (nat_eq q k || is_set words q)
is_set-with_place words k q l = elim (eqb_tells (q / 64) (k / 64)) [ inl e ↦ same_word e.1 | inr e ↦ other_word e.1 ]
  where
    word : ℕ
    word = slice_index words (k / 64)

    new_word : ℕ
    new_word = bit_or word (1 * 2 ^ (k % 64) % 2 ^ 64)

    within : k % 64 < 64
    within = omega arith

    same_word : q / 64 ≡ k / 64 → is_set (with_place words k) q ≡ (nat_eq q k || is_set words q)
    same_word e =
        let here : slice_index (with_place words k) (q / 64) ≡ new_word = get_or-set_at words (k / 64) (q / 64) new_word 0 e (omega arith) in
        elim (eqb_tells (q % 64) (k % 64)) [
          | inl f ↦
              let set : bit_at (slice_index (with_place words k) (q / 64)) (q % 64) ≡ 1 = ap (λ w. bit_at w (q % 64)) here ∙ ap (λ i. bit_at new_word i) f.1 ∙ bit_at_set_same w64 word (k % 64) within in
              ap (λ b. nat_eq b 1) set ∙ sym (ap (λ b. b || is_set words q) (eq-eqb q k (omega (arith, e, f.1))))
          | inr f ↦
              let kept : bit_at (slice_index (with_place words k) (q / 64)) (q % 64) ≡ bit_at (slice_index words (q / 64)) (q % 64) = ap (λ w. bit_at w (q % 64)) here ∙ bit_at_set_other w64 word (k % 64) within (q % 64) f.1 ∙ ap (λ i. bit_at (slice_index words i) (q % 64)) (sym e) in
              let apart : q ≢ k = λ g. f.1 (ap (λ n. n % 64) g) in
              ap (λ b. nat_eq b 1) kept ∙ sym (ap (λ b. b || is_set words q) (ne_eqb q k apart))
        ]

    other_word : q / 64 ≢ k / 64 → is_set (with_place words k) q ≡ (nat_eq q k || is_set words q)
    other_word e =
        let apart : q ≢ k = λ g. e (ap (λ n. n / 64) g) in
        let kept : slice_index (with_place words k) (q / 64) ≡ slice_index words (q / 64) = get_or-set_other words (k / 64) (q / 64) new_word 0 e in
        ap (λ w. nat_eq (bit_at w (q % 64)) 1) kept ∙ sym (ap (λ b. b || is_set words q) (ne_eqb q k apart))

-- the words with the bit of a place cleared
abbrev pub without_place : List ℕ → ℕ → List ℕ
without_place words k = slice_set words (k / 64) (bit_and (slice_index words (k / 64)) (bit_not w64 (1 * 2 ^ (k % 64) % 2 ^ 64)))

pub is_set-without_place : (words : List ℕ) (k q : ℕ) → k < 64 * length words → is_set (without_place words k) q ≡ (not (nat_eq q k) && is_set words q)
is_set-without_place words k q l = elim (eqb_tells (q / 64) (k / 64)) [ inl e ↦ same_word e.1 | inr e ↦ other_word e.1 ]
  where
    word : ℕ
    word = slice_index words (k / 64)

    new_word : ℕ
    new_word = bit_and word (bit_not w64 (1 * 2 ^ (k % 64) % 2 ^ 64))

    within : k % 64 < 64
    within = omega arith

    within_too : q % 64 < 64
    within_too = omega arith

    same_word : q / 64 ≡ k / 64 → is_set (without_place words k) q ≡ (not (nat_eq q k) && is_set words q)
    same_word e =
        let here : slice_index (without_place words k) (q / 64) ≡ new_word = get_or-set_at words (k / 64) (q / 64) new_word 0 e (omega arith) in
        elim (eqb_tells (q % 64) (k % 64)) [
          | inl f ↦
              let cleared : bit_at (slice_index (without_place words k) (q / 64)) (q % 64) ≡ 0 = ap (λ w. bit_at w (q % 64)) here ∙ ap (λ i. bit_at new_word i) f.1 ∙ bit_at_clear_same w64 word (k % 64) within in
              ap (λ b. nat_eq b 1) cleared ∙ sym (ap (λ b. not b && is_set words q) (eq-eqb q k (omega (arith, e, f.1))))
          | inr f ↦
              let kept : bit_at (slice_index (without_place words k) (q / 64)) (q % 64) ≡ bit_at (slice_index words (q / 64)) (q % 64) = ap (λ w. bit_at w (q % 64)) here ∙ bit_at_clear_other w64 word (k % 64) within (q % 64) within_too f.1 ∙ ap (λ i. bit_at (slice_index words i) (q % 64)) (sym e) in
              let apart : q ≢ k = λ g. f.1 (ap (λ n. n % 64) g) in
              ap (λ b. nat_eq b 1) kept ∙ sym (ap (λ b. not b && is_set words q) (ne_eqb q k apart))
        ]

    other_word : q / 64 ≢ k / 64 → is_set (without_place words k) q ≡ (not (nat_eq q k) && is_set words q)
    other_word e =
        let apart : q ≢ k = λ g. e (ap (λ n. n / 64) g) in
        let kept : slice_index (without_place words k) (q / 64) ≡ slice_index words (q / 64) = get_or-set_other words (k / 64) (q / 64) new_word 0 e in
        ap (λ w. nat_eq (bit_at w (q % 64)) 1) kept ∙ sym (ap (λ b. not b && is_set words q) (ne_eqb q k apart))

-- the test `word >> i & 1 == 1`
pub is_set-test : (words : List ℕ) (q : ℕ) → nat_eq (bit_and (slice_index words (q / 64) / 2 ^ (q % 64)) 1) 1 ≡ is_set words q
is_set-test words q = ap (λ b. nat_eq b 1) (shr_and_one (slice_index words (q / 64)) (q % 64))

no_words : (i : ℕ) → slice_index (0 ∷ 0 ∷ 0 ∷ 0 ∷ []) i ≡ 0
no_words zero = refl
no_words (suc zero) = refl
no_words (suc (suc zero)) = refl
no_words (suc (suc (suc zero))) = refl
no_words (suc (suc (suc (suc i)))) = refl

pub is_set-no_words : (q : ℕ) → is_set (0 ∷ 0 ∷ 0 ∷ 0 ∷ []) q ≡ false
is_set-no_words q = ap (λ w. nat_eq (bit_at w (q % 64)) 1) (no_words (q / 64)) ∙ ap (λ b. nat_eq b 1) (bit_at-zero (q % 64))
