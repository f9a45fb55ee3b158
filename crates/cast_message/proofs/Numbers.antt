-- A set of numbers, as bits and an ordered set.
use Rattle.std.specs.Prelude.{◌≡◌, ℕ, zero, suc, ◌*◌, ◌/◌, ◌%◌, ◌^◌, ◌≤◌, ◌<◌, nat_eq, Bool, true, false, cond, not, ◌&&◌, ◌||◌, List, [], ◌∷◌, ◌++◌, length, slice_index, slice_index_or, slice_set, bit_or, replicate, refl}
use Rattle.std.specs.List.{All, list_any}
use Rattle.std.specs.Int.{bit_at}
use Rattle.std.specs.Ordering.{nat_cmp}
use Rattle.std.specs.BTreeMap.{is_at}
use Rattle.std.specs.FinSet as set
use Rattle.std.proofs.Common.{sym, ap, ◌∙◌, arith, inl, inr, true≢false}
use Rattle.std.proofs.lemmas.Bool.Decides.{nat_tests, leb_tells}
use Rattle.std.proofs.lemmas.List.{get_or_past}
use Rattle.std.proofs.lemmas.List.Folds.{list_any_none}
use Rattle.std.proofs.lemmas.Nat.Bits.{bit_at-zero}
use Rattle.std.proofs.lemmas.Bool.{lt-ltb}
use Rattle.cast_message.proofs.Tests.{tie}
use Rattle.cast_message.proofs.Lists.{none_counted}
use Rattle.cast_message.proofs.Booleans.{or_false}
use Rattle.cast_message.specs.Bits.{is_set}
use Rattle.cast_message.specs.Numbers.{is_number, number_set}
use Rattle.cast_message.specs.Members.{contains-members_below, members_below-insert, members_below-remove}
use Rattle.cast_message.proofs.Places.{is_set-with_place, with_place, is_set-without_place, without_place}

pub padded : (words : List ℕ) (k i : ℕ) → slice_index (words ++ replicate k 0) i ≡ slice_index words i
padded [] k i = none_counted k i
padded (w ∷ words) k zero = refl
padded (w ∷ words) k (suc i) = padded words k i

-- no bit from the last word on
pub no_bit : (words : List ℕ) (q : ℕ) → length words ≤ q / 64 → is_set words q ≡ false
no_bit words q l = ap (λ w. nat_eq (bit_at w (q % 64)) 1) (get_or_past words (q / 64) 0 l) ∙ ap (λ b. nat_eq b 1) (bit_at-zero (q % 64))

pub is_number-in : (words far : List ℕ) (s : set.FinSet nat_cmp) → number_set words far ≡ s → (q : ℕ) → q < 2 ^ 64 → is_number words far q ≡ set.contains s q
is_number-in words far s e q l = sym (contains-members_below (2 ^ 64) (is_number words far) q ∙ ap (λ b. b && is_number words far q) (lt-ltb q (2 ^ 64) l)) ∙ ap (λ s. set.contains s q) e

pub far_number : (words far : List ℕ) (q : ℕ) → length words ≤ 64 → 4096 ≤ q → is_number words far q ≡ list_any (is_at (nat_cmp q)) far
far_number words far q l m = ap (λ b. b || list_any (is_at (nat_cmp q)) far) (no_bit words q (omega arith))

apart : (q k : ℕ) → q < 4096 → 4096 ≤ k → is_at (nat_cmp q) k ≡ false
apart q k l m = grind (arith, nat_tests)

All-apart : (far : List ℕ) (q : ℕ) → q < 4096 → All (λ k. 4096 ≤ k) far → All (λ k. is_at (nat_cmp q) k ≡ false) far
All-apart far q l h = λ i d within. apart q (slice_index_or far i d) l (h i d within)

pub near_number : (words far : List ℕ) (q : ℕ) → q < 4096 → All (λ k. 4096 ≤ k) far → is_number words far q ≡ is_set words q
near_number words far q l h = ap (λ b. is_set words q || b) (list_any_none (is_at (nat_cmp q)) far (All-apart far q l h)) ∙ or_false (is_set words q)

or_cond : (a b c : Bool) → (a || cond b true c) ≡ (b || (a || c))
or_cond true true c = refl
or_cond true false c = refl
or_cond false true c = refl
or_cond false false c = refl

or_or : (a b c : Bool) → ((a || b) || c) ≡ (a || (b || c))
or_or true b c = refl
or_or false b c = refl

pub far_added : (words far more : List ℕ) (s : set.FinSet nat_cmp) (k : ℕ) → number_set words far ≡ s → k < 2 ^ 64 → ((q : ℕ) → list_any (is_at (nat_cmp q)) more ≡ cond (is_at (nat_cmp k) q) true (list_any (is_at (nat_cmp q)) far)) → number_set words more ≡ set.insert s k
far_added words far more s k e l h =
    members_below-insert (2 ^ 64) (is_number words far) (is_number words more) k l (λ q _. ap (λ b. is_set words q || b) (h q) ∙ or_cond (is_set words q) (is_at (nat_cmp k) q) _ ∙ ap (λ b. b || is_number words far q) (tie q k))
    ∙ ap (λ s. set.insert s k) e

pub near_added : (words room far : List ℕ) (s : set.FinSet nat_cmp) (k place : ℕ) → number_set words far ≡ s → k < 2 ^ 64 → ((i : ℕ) → slice_index room i ≡ slice_index words i) → place ≡ k / 64 → place < length room → number_set (slice_set room place (bit_or (slice_index room place) (1 * 2 ^ (k % 64) % 2 ^ 64))) far ≡ set.insert s k
near_added words room far s k place e l same at within =
    ap (λ p. number_set (slice_set room p (bit_or (slice_index room p) (1 * 2 ^ (k % 64) % 2 ^ 64))) far) at
    ∙ members_below-insert (2 ^ 64) (is_number words far) (is_number (with_place room k) far) k l (λ q _.
    ap (λ b. b || list_any (is_at (nat_cmp q)) far) (is_set-with_place room k q (omega (arith, within, at)) ∙ ap (λ w. nat_eq q k || nat_eq (bit_at w (q % 64)) 1) (same (q / 64)))
    ∙ or_or (nat_eq q k) (is_set words q) (list_any (is_at (nat_cmp q)) far))
    ∙ ap (λ s. set.insert s k) e

no_far : (words : List ℕ) (k : ℕ) → length words ≤ 64 → 4096 ≤ k → (q : ℕ) → nat_eq q k ≡ true → is_set words q ≡ false
no_far words k l m q e = no_bit words q (omega (arith, l, m, eq_tells q k e))
  where
    eq_tells : (q k : ℕ) → nat_eq q k ≡ true → q ≡ k
    eq_tells q k e = grind (arith, nat_tests)

pub far_removed : (words far fewer : List ℕ) (s : set.FinSet nat_cmp) (k : ℕ) → number_set words far ≡ s → length words ≤ 64 → 4096 ≤ k → ((q : ℕ) → list_any (is_at (nat_cmp q)) fewer ≡ cond (is_at (nat_cmp k) q) false (list_any (is_at (nat_cmp q)) far)) → number_set words fewer ≡ set.remove s k
far_removed words far fewer s k e short l h =
    members_below-remove (2 ^ 64) (is_number words far) (is_number words fewer) k (λ q _. ap (λ b. is_set words q || b) (h q) ∙ ap (λ b. is_set words q || cond b false (list_any (is_at (nat_cmp q)) far)) (tie q k) ∙ left (nat_eq q k) (is_set words q) (list_any (is_at (nat_cmp q)) far) (no_far words k short l q))
    ∙ ap (λ s. set.remove s k) e
  where
    left : (a b c : Bool) → (a ≡ true → b ≡ false) → (b || cond a false c) ≡ (not a && (b || c))
    left true b c f = ap (λ b. b || false) (f refl)
    left false b c f = refl

pub near_removed : (words far : List ℕ) (s : set.FinSet nat_cmp) (k : ℕ) → number_set words far ≡ s → k < 4096 → k < 64 * length words → All (λ number. 4096 ≤ number) far → number_set (without_place words k) far ≡ set.remove s k
near_removed words far s k e near l h =
    members_below-remove (2 ^ 64) (is_number words far) (is_number (without_place words k) far) k (λ q _. ap (λ b. b || list_any (is_at (nat_cmp q)) far) (is_set-without_place words k q l) ∙ left (nat_eq q k) (is_set words q) (list_any (is_at (nat_cmp q)) far) (none q))
    ∙ ap (λ s. set.remove s k) e
  where
    eq_tells : (q k : ℕ) → nat_eq q k ≡ true → q ≡ k
    eq_tells q k e = grind (arith, nat_tests)

    none : (q : ℕ) → nat_eq q k ≡ true → list_any (is_at (nat_cmp q)) far ≡ false
    none q f = list_any_none (is_at (nat_cmp q)) far (All-apart far q (omega (arith, near, eq_tells q k f)) h)

    left : (a b c : Bool) → (a ≡ true → c ≡ false) → ((not a && b) || c) ≡ (not a && (b || c))
    left true b c f = f refl
    left false b c f = refl

-- a member below the bits' end has a bit
pub has_word : (words far : List ℕ) (s : set.FinSet nat_cmp) (k : ℕ) → number_set words far ≡ s → k < 4096 → All (λ number. 4096 ≤ number) far → set.contains s k ≡ true → k / 64 < length words
has_word words far s k e near h hit = elim (leb_tells (length words) (k / 64)) [
  | inl l ↦ absurd (true≢false (sym hit ∙ sym (is_number-in words far s e k (omega (arith, near))) ∙ near_number words far k near h ∙ no_bit words k l.1))
  | inr l ↦ l.1
]

pub no_number : (q : ℕ) → is_number [] [] q ≡ false
no_number q = or_false (is_set [] q) ∙ no_bit [] q (omega arith)
