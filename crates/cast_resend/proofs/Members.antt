-- The members of a set of peers, as bits of one word.
use Rattle.std.proofs.Common.{◌≡◌, ℕ, ◌+◌, ◌<◌, ◌≤◌, ◌^◌, Bool, true, false, not, ◌&&◌, ◌||◌, Option, Some, None, refl, sym, ap, ◌∙◌, subst, inl, inr, arith}
use Rattle.std.specs.Prelude.{nat_eq, nat_lt, min, bit_and, cond, IfSome, IfNone}
use Rattle.std.specs.Ordering.{nat_cmp, eq_by_cmp}
use Rattle.std.specs.Cmp.{nat_cmp_total}
use Rattle.std.specs.FinSet as set
use Rattle.std.specs.FinSet.{nat_cmp-IsAntisymmetric, contains-remove, contains-insert, contains-empty, same_set}
use Rattle.std.specs.Int.{bit_at, trailing_zeros, w64}
use Rattle.std.proofs.lemmas.Bool.Decides.{eqb_tells, nat_tests}
use Rattle.std.proofs.lemmas.Nat.Bits.{bit_at-lt, bit_at-zero, bit_at_and, bit_at-trailing_zeros}
use Rattle.cast_message.specs.Bits.{is_set_in}
use Rattle.cast_message.specs.Items.{byte_sized}
use Rattle.cast_message.specs.Members.{members_below, contains-members_below, members_below-empty, len-new_member}

both : (a b : Bool) → a ≡ true → b ≡ true → (a && b) ≡ true
both a b e f = λ i. e i && f i

below_64 : (q : ℕ) → q < 64 → nat_lt q 64 ≡ true
below_64 q l = grind (arith, nat_tests)

pub member_of : (word q : ℕ) (s : set.FinSet nat_cmp) → members_below 64 (is_set_in word) ≡ s → is_set_in word q ≡ true → q < 64 → set.contains s q ≡ true
member_of word q s told e l = ap (λ t. set.contains t q) (sym told) ∙ contains-members_below 64 (is_set_in word) q ∙ both (nat_lt q 64) (is_set_in word q) (below_64 q l) e

least_set : (x y : ℕ) → x < 2 → y < 2 → nat_eq (min x y) 1 ≡ true → nat_eq x 1 ≡ true
least_set x y l m e = grind (arith, nat_tests)

pub member_of_part : (word x q : ℕ) (s : set.FinSet nat_cmp) → members_below 64 (is_set_in word) ≡ s → is_set_in (bit_and word x) q ≡ true → q < 64 → set.contains s q ≡ true
member_of_part word x q s told e l =
    let is : is_set_in word q ≡ true = least_set (bit_at word q) (bit_at x q) (bit_at-lt word q) (bit_at-lt x q) (ap (λ b. nat_eq b 1) (sym (bit_at_and word x q)) ∙ e) in
    member_of word q s told is l

pub no_members : (word : ℕ) (s : set.FinSet nat_cmp) → members_below 64 (is_set_in word) ≡ s → word ≡ 0 → (q : ℕ) → set.contains s q ≡ false
no_members word s told e q =
    ap (λ t. set.contains t q) (sym told ∙ members_below-empty 64 (is_set_in word) (λ p. ap (λ w. is_set_in w p) e ∙ ap (λ b. nat_eq b 1) (bit_at-zero p)))
    ∙ contains-empty nat_cmp q

-- the lowest bit
byte_of : (m : ℕ) → m < 64 → nat_lt m 256 ≡ true
byte_of m l = grind (arith, nat_tests)

pub lowest_is : (word n : ℕ) (o : Option ℕ) → 0 < word → word < 2 ^ 64 → n ≡ trailing_zeros w64 word → o ≡ byte_sized n → o ≡ Some (trailing_zeros w64 word)
lowest_is word n o some fits is e =
    let b = bit_at-trailing_zeros w64 word some fits in
    e ∙ ap byte_sized is ∙ ap (λ t. cond t (Some (trailing_zeros w64 word)) None) (byte_of (trailing_zeros w64 word) b.0)

pub lowest_found : (word : ℕ) (o : Option ℕ) → 0 < word → word < 2 ^ 64 → o ≡ Some (trailing_zeros w64 word) → IfSome o (λ q. (is_set_in word q ≡ true) × (q < 64))
lowest_found word o some fits e =
    let b = bit_at-trailing_zeros w64 word some fits in
    let P : Option ℕ → Type 0 = λ v. IfSome v (λ q. (is_set_in word q ≡ true) × (q < 64)) in
    subst P (sym e) (ap (λ v. nat_eq v 1) b.1, b.0)

-- what is left when a member is taken out
tie : (q k : ℕ) → eq_by_cmp nat_cmp q k ≡ nat_eq q k
tie q k = grind (arith, nat_tests)

pub removed : (s : set.FinSet nat_cmp) (k q : ℕ) → set.contains (set.remove s k) q ≡ (not (nat_eq q k) && set.contains s q)
removed s k q = contains-remove nat_cmp_total s k q ∙ ap (λ b. not b && set.contains s q) (tie q k)

pub stays_in : (s : set.FinSet nat_cmp) (k q : ℕ) → nat_eq q k ≡ false → set.contains s q ≡ true → set.contains (set.remove s k) q ≡ true
stays_in s k q e h = removed s k q ∙ (λ i. not (e i) && h i)

pub was_in : (s : set.FinSet nat_cmp) (k q : ℕ) → nat_eq q k ≡ false → set.contains (set.remove s k) q ≡ true → set.contains s q ≡ true
was_in s k q e h = sym (removed s k q ∙ ap (λ b. not b && set.contains s q) e) ∙ h

pub is_out : (s : set.FinSet nat_cmp) (k q : ℕ) → nat_eq q k ≡ true → set.contains (set.remove s k) q ≡ false
is_out s k q e = removed s k q ∙ ap (λ b. not b && set.contains s q) e

same_again : (s : set.FinSet nat_cmp) (k : ℕ) → set.contains s k ≡ true → set.insert (set.remove s k) k ≡ s
same_again s k h = same_set nat_cmp_total nat_cmp-IsAntisymmetric _ _ (λ q. contains-insert nat_cmp_total (set.remove s k) k q ∙ ap (λ b. b || set.contains (set.remove s k) q) (tie q k) ∙ each q)
  where
    each : (q : ℕ) → (nat_eq q k || set.contains (set.remove s k) q) ≡ set.contains s q
    each q = elim (eqb_tells q k) [
      | inl e ↦ ap (λ b. b || set.contains (set.remove s k) q) e.0 ∙ sym (ap (set.contains s) e.1 ∙ h)
      | inr e ↦ ap (λ b. b || set.contains (set.remove s k) q) e.0 ∙ removed s k q ∙ ap (λ b. not b && set.contains s q) e.0
    ]

same_eq : (k : ℕ) → nat_eq k k ≡ true
same_eq k = grind (arith, nat_tests)

pub fewer_members : (s : set.FinSet nat_cmp) (k : ℕ) → set.contains s k ≡ true → set.len (set.remove s k) < set.len s
fewer_members s k h =
    let more : set.len s ≡ set.len (set.remove s k) + 1 = ap set.len (sym (same_again s k h)) ∙ len-new_member (set.remove s k) k (is_out s k k (same_eq k)) in
    omega arith

pub members_found : (word : ℕ) (s : set.FinSet nat_cmp) (o : Option ℕ) → members_below 64 (is_set_in word) ≡ s → IfSome o (λ q. (is_set_in word q ≡ true) × (q < 64)) → IfSome o (λ q. (set.contains s q ≡ true) × (q < 64))
members_found word s None told h = h
members_found word s (Some q) told h = (member_of word q s told h.0 h.1, h.1)

pub none_found : (word : ℕ) (s : set.FinSet nat_cmp) (o : Option ℕ) → members_below 64 (is_set_in word) ≡ s → IfNone o (word ≡ 0) → IfNone o ((q : ℕ) → set.contains s q ≡ false)
none_found word s None told h = no_members word s told h
none_found word s (Some q) told h = h

pub contains_is : (word inside q : ℕ) (s : set.FinSet nat_cmp) → members_below 64 (is_set_in word) ≡ s → inside ≡ q → inside < 64 → is_set_in word inside ≡ set.contains s q
contains_is word inside q s told e l =
    sym (ap (λ b. b && is_set_in word inside) (below_64 inside l)) ∙ sym (contains-members_below 64 (is_set_in word) inside) ∙ ap (set.contains (members_below 64 (is_set_in word))) e ∙ ap (λ t. set.contains t q) told

past_64 : (q : ℕ) → 64 ≤ q → nat_lt q 64 ≡ false
past_64 q l = grind (arith, nat_tests)

pub contains_past : (word inside q : ℕ) (s : set.FinSet nat_cmp) → members_below 64 (is_set_in word) ≡ s → inside ≡ q → 64 ≤ inside → false ≡ set.contains s q
contains_past word inside q s told e l =
    sym (ap (λ b. b && is_set_in word inside) (past_64 inside l)) ∙ sym (contains-members_below 64 (is_set_in word) inside) ∙ ap (set.contains (members_below 64 (is_set_in word))) e ∙ ap (λ t. set.contains t q) told

or_true : (b : Bool) → (b || true) ≡ true
or_true true = refl
or_true false = refl

pub inserted : (s t : set.FinSet nat_cmp) (k : ℕ) → t ≡ set.insert s k → set.contains t k ≡ true
inserted s t k e = ap (λ v. set.contains v k) e ∙ contains-insert nat_cmp_total s k k ∙ ap (λ b. b || set.contains s k) (tie k k ∙ same_eq k)

pub still_in : (s t : set.FinSet nat_cmp) (k q : ℕ) → t ≡ set.insert s k → set.contains s q ≡ true → set.contains t q ≡ true
still_in s t k q e h = ap (λ v. set.contains v q) e ∙ contains-insert nat_cmp_total s k q ∙ ap (λ b. eq_by_cmp nat_cmp q k || b) h ∙ or_true (eq_by_cmp nat_cmp q k)

pub all_added : (s t : set.FinSet nat_cmp) (i q n : ℕ) → ((p : ℕ) → p < i → p < n → set.contains s p ≡ true) → t ≡ set.insert s i → q < i + 1 → q < n → set.contains t q ≡ true
all_added s t i q n all e below within = elim (eqb_tells q i) [
  | inl h ↦ ap (set.contains t) h.1 ∙ inserted s t i e
  | inr h ↦ let differs = h.1 in still_in s t i q e (all q (omega arith) within)
]
