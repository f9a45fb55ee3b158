-- A set of nodes of a group, as the bits of one word.
use Rattle.std.specs.Prelude.{◌≡◌, ℕ, zero, suc, ◌+◌, ◌-◌, ◌*◌, ◌/◌, ◌%◌, ◌^◌, ◌<◌, ◌≤◌, nat_eq, nat_lt, ◌↔◌, IsFalse, Bool, true, false, cond, not, ◌&&◌, ◌||◌, bit_and, bit_or, count_ones, min, refl}
use Rattle.std.specs.Ordering.{nat_cmp}
use Rattle.std.specs.Cmp.{nat_cmp_total}
use Rattle.std.specs.FinSet as set
use Rattle.std.specs.FinSet.{nat_cmp-IsAntisymmetric, contains-intersection, len-empty, same_set}
use Rattle.std.specs.Int.{bit_at, bit_not, w64}
use Rattle.std.proofs.Common.{inl, inr, sym, ap, ◌∙◌, arith, mod-lt}
use Rattle.std.proofs.lemmas.Bool.Decides.{eqb_tells, nat_tests}
use Rattle.std.proofs.lemmas.Nat.{and_le_l, field_of, ones-le, ones_cat, zero_from_ones, shr_split, pow_pos}
use Rattle.std.proofs.Math.Nat.{div-lt_iff_lt-mul, pow-suc}
use Rattle.std.proofs.Math.Pow.{mod-mod-pow}
use Rattle.std.proofs.lemmas.Nat.Bits.{bit_at-lt, bit_at-zero, bit_at_and, bit_at_set_same, bit_at_set_other, bit_at_clear_same, bit_at_clear_other}
use Rattle.cast_message.specs.Bits.{is_set_in}
use Rattle.cast_message.specs.Members.{members_below, contains-members_below, members_below-empty, members_below-insert, members_below-remove, members_below-len, members_below-more, members_below-same}

-- the word with the bit of a place set
abbrev pub with_bit : ℕ → ℕ → ℕ
with_bit word k = bit_or word (1 * 2 ^ k % 2 ^ 64)

is_set-with_bit : (word k q : ℕ) → k < 64 → is_set_in (with_bit word k) q ≡ (nat_eq q k || is_set_in word q)
is_set-with_bit word k q within = elim (eqb_tells q k) [
  | inl e ↦ ap (λ b. nat_eq b 1) (ap (bit_at (with_bit word k)) e.1 ∙ bit_at_set_same w64 word k within) ∙ sym (ap (λ b. b || is_set_in word q) e.0)
  | inr e ↦ ap (λ b. nat_eq b 1) (bit_at_set_other w64 word k within q e.1) ∙ sym (ap (λ b. b || is_set_in word q) e.0)
]

-- a bit that is set puts its node in
pub bit_added : (word : ℕ) (s : set.FinSet nat_cmp) (inside node : ℕ) → members_below 64 (is_set_in word) ≡ s → inside ≡ node → node < 64 → members_below 64 (is_set_in (with_bit word inside)) ≡ set.insert s node
bit_added word s inside node told same within =
    ap (λ k. members_below 64 (is_set_in (with_bit word k))) same
    ∙ members_below-insert 64 (is_set_in word) (is_set_in (with_bit word node)) node within (λ q _. is_set-with_bit word node q within)
    ∙ ap (λ t. set.insert t node) told

-- the word with the bit of a place cleared
abbrev pub without_bit : ℕ → ℕ → ℕ
without_bit word k = bit_and word (bit_not w64 (1 * 2 ^ k % 2 ^ 64))

is_set-without_bit : (word k q : ℕ) → k < 64 → q < 64 → is_set_in (without_bit word k) q ≡ (not (nat_eq q k) && is_set_in word q)
is_set-without_bit word k q within within_too = elim (eqb_tells q k) [
  | inl e ↦ ap (λ b. nat_eq b 1) (ap (bit_at (without_bit word k)) e.1 ∙ bit_at_clear_same w64 word k within) ∙ sym (ap (λ b. not b && is_set_in word q) e.0)
  | inr e ↦ ap (λ b. nat_eq b 1) (bit_at_clear_other w64 word k within q within_too e.1) ∙ sym (ap (λ b. not b && is_set_in word q) e.0)
]

-- a bit that is cleared takes its node out
pub bit_removed : (word : ℕ) (s : set.FinSet nat_cmp) (inside node : ℕ) → members_below 64 (is_set_in word) ≡ s → inside ≡ node → node < 64 → members_below 64 (is_set_in (without_bit word inside)) ≡ set.remove s node
bit_removed word s inside node told same within =
    ap (λ k. members_below 64 (is_set_in (without_bit word k))) same
    ∙ members_below-remove 64 (is_set_in word) (is_set_in (without_bit word node)) node (λ q l. is_set-without_bit word node q within l)
    ∙ ap (λ t. set.remove t node) told

-- the bits of two words are the members of both
both_bits : (x y : ℕ) → x < 2 → y < 2 → nat_eq (min x y) 1 ≡ (nat_eq x 1 && nat_eq y 1)
both_bits x y l m = grind (arith, nat_tests)

in_both : (low x y : Bool) → (low && (x && y)) ≡ ((low && x) && (low && y))
in_both true x y = refl
in_both false x y = refl

members_of_both : (one two : ℕ) → members_below 64 (is_set_in (bit_and one two)) ≡ set.intersection (members_below 64 (is_set_in one)) (members_below 64 (is_set_in two))
members_of_both one two = same_set nat_cmp_total nat_cmp-IsAntisymmetric _ _ (λ q.
    contains-members_below 64 (is_set_in (bit_and one two)) q
    ∙ ap (λ b. nat_lt q 64 && b) (ap (λ b. nat_eq b 1) (bit_at_and one two q) ∙ both_bits (bit_at one q) (bit_at two q) (bit_at-lt one q) (bit_at-lt two q))
    ∙ in_both (nat_lt q 64) (is_set_in one q) (is_set_in two q)
    ∙ sym (contains-intersection nat_cmp_total (members_below 64 (is_set_in one)) (members_below 64 (is_set_in two)) q
    ∙ (λ i. contains-members_below 64 (is_set_in one) q i && contains-members_below 64 (is_set_in two) q i)))

-- a bit below the n-th is that of what the word leaves by 2 ^ n
low_bit : (n word q : ℕ) → q < n → bit_at (word % 2 ^ n) q ≡ bit_at word q
low_bit n word q below =
    let above : n ≡ (n - q - 1 + 1) + q = omega arith in
    ap (λ m. word % 2 ^ m / 2 ^ q % 2) above
    ∙ ap (λ x. x % 2) (field_of word (n - q - 1 + 1) q)
    ∙ mod-mod-pow (word / 2 ^ q) (n - q - 1) 1

one_bit : (b : ℕ) → b < 2 → count_ones b ≡ cond (nat_eq (b % 2) 1) 1 0
one_bit zero l = omega (arith, ones-le 0 0 (omega arith))
one_bit (suc zero) l = at_one (count_ones 1) (ones-le 1 1 (omega arith)) (zero_from_ones 1)
  where
    at_one : (n : ℕ) → n ≤ 1 → (n ≡ 0 → suc 0 ≡ 0) → n ≡ 1
    at_one zero most some = absurd (omega (arith, some refl))
    at_one (suc n) most some = omega arith
one_bit (suc (suc b)) l = absurd (omega arith)

counted : (b : Bool) (m : ℕ) → cond b 1 0 + m ≡ cond b (m + 1) m
counted true m = omega arith
counted false m = omega arith

-- a word has as many ones as members
pub ones_are_members : (n word : ℕ) → word < 2 ^ n → count_ones word ≡ set.len (members_below n (is_set_in word))
ones_are_members zero word h = omega (arith, ones-le 0 word h, members_below-len 0 (is_set_in word))
ones_are_members (suc n) word h =
    ap count_ones (sym (shr_split word n))
    ∙ ones_cat n (word / 2 ^ n) (word % 2 ^ n) low
    ∙ (λ i. one_bit (word / 2 ^ n) high i + rest (ones_are_members n (word % 2 ^ n) low) i)
    ∙ counted (is_set_in word n) (set.len (members_below n (is_set_in word)))
    ∙ sym (members_below-more n (is_set_in word))
  where
    low : word % 2 ^ n < 2 ^ n
    low = omega (arith, mod-lt word (pow_pos n))

    high : word / 2 ^ n < 2
    high = (div-lt_iff_lt-mul (pow_pos n)).1 (omega (arith, h, pow-suc 2 n))

    rest : count_ones (word % 2 ^ n) ≡ set.len (members_below n (is_set_in (word % 2 ^ n))) → count_ones (word % 2 ^ n) ≡ set.len (members_below n (is_set_in word))
    rest below = below ∙ ap set.len (members_below-same n _ _ (λ q l. ap (λ b. nat_eq b 1) (low_bit n word q l)))

-- a word has no member exactly where it is zero
zero_has_none : (word : ℕ) → word ≡ 0 → members_below 64 (is_set_in word) ≡ set.empty
zero_has_none word e = members_below-empty 64 _ (λ q. ap (λ w. is_set_in w q) e ∙ ap (λ b. nat_eq b 1) (bit_at-zero q))

none_is_zero : (word : ℕ) → word < 2 ^ 64 → members_below 64 (is_set_in word) ≡ set.empty → word ≡ 0
none_is_zero word within none = zero_from_ones word (ones_are_members 64 word within ∙ ap set.len none ∙ len-empty nat_cmp)

-- two words share a bit where their sets share a node
pub none_in_both : (one two : ℕ) (s t : set.FinSet nat_cmp) → one < 2 ^ 64 → members_below 64 (is_set_in one) ≡ s → members_below 64 (is_set_in two) ≡ t → IsFalse (not (nat_eq (bit_and one two) 0)) ↔ set.intersection s t ≡ set.empty
none_in_both one two s t within s_is t_is = (λ e. sym both ∙ zero_has_none _ (is_zero e), λ e. none (none_is_zero _ (omega (arith, within, and_le_l one two)) (both ∙ e)))
  where
    both : members_below 64 (is_set_in (bit_and one two)) ≡ set.intersection s t
    both = members_of_both one two ∙ (λ i. set.intersection (s_is i) (t_is i))

    is_zero : IsFalse (not (nat_eq (bit_and one two) 0)) → bit_and one two ≡ 0
    is_zero e = grind (arith, nat_tests, e)

    none : bit_and one two ≡ 0 → IsFalse (not (nat_eq (bit_and one two) 0))
    none e = ap (λ n. not (nat_eq n 0)) e
