-- A finite set of numbers that pass a test.
--     members_below n p            the numbers below n that pass p
--     contains-members_below       what it contains
--     members_below-same           two tests that agree give one set
--     members_below-insert         one more number passes
--     members_below-remove         one number fewer passes
--     members_below-more           one more number is below
--     members_below-len            it has at most n members
--     remove-inserted              a new number is added and removed again
use Rattle.std.specs.Prelude.{◌≡◌, ℕ, zero, suc, ◌+◌, ◌≤◌, ◌<◌, nat_lt, nat_le, nat_eq, Bool, true, false, cond, not, ◌&&◌, ◌||◌, List, [], ◌∷◌, length, refl}
use Rattle.std.specs.List.{list_any, filter, range_with_len}
use Rattle.std.specs.Ordering.{nat_cmp, eq_by_cmp}
use Rattle.std.specs.Cmp.{nat_cmp_total}
use Rattle.std.specs.FinSet as set
use Rattle.std.specs.FinSet.{nat_cmp-IsAntisymmetric, contains-from_list_nat, contains-insert, contains-remove, contains-empty, len-insert, len-empty, same_set}
use Rattle.std.proofs.Common.{sym, ap, ◌∙◌, arith}
use Rattle.std.proofs.lemmas.Bool.Decides.{nat_tests, leb_tells}
use Rattle.std.proofs.Common.{inl, inr}
use Rattle.std.proofs.lemmas.List.FromFn.{length-range_with_len}

-- the numbers below n that pass the test
unfoldable pub members_below : ℕ → (ℕ → Bool) → set.FinSet nat_cmp
members_below n p = set.from_list (filter p (range_with_len 0 n))

eq_false : (q k : ℕ) → k < q → false ≡ (nat_eq q k || false)
eq_false q k l = grind (arith, nat_tests)

any-filter : (t p : ℕ → Bool) (xs : List ℕ) → list_any t (filter p xs) ≡ list_any (λ y. t y && p y) xs
any-filter t p [] = refl
any-filter t p (x ∷ xs) = go (p x) (any-filter t p xs)
  where
    and_true : (c : Bool) → c ≡ (c && true)
    and_true true = refl
    and_true false = refl

    and_false : (c : Bool) → false ≡ (c && false)
    and_false true = refl
    and_false false = refl

    go : (b : Bool) → list_any t (filter p xs) ≡ list_any (λ y. t y && p y) xs → list_any t (cond b (x ∷ filter p xs) (filter p xs)) ≡ ((t x && b) || list_any (λ y. t y && p y) xs)
    go true h = (λ i. and_true (t x) i || h i)
    go false h = h ∙ ap (λ c. c || list_any (λ y. t y && p y) xs) (and_false (t x))

any_in_step : (a q m : ℕ) (x y : Bool) → (a ≡ q → x ≡ y) → a < m → ((nat_eq a q && x) || ((nat_le (a + 1) q && nat_lt q m) && y)) ≡ ((nat_le a q && nat_lt q m) && y)
any_in_step a q m x y h l = grind (arith, nat_tests)

any_in_range : (p : ℕ → Bool) (q a n : ℕ) → list_any (λ y. nat_eq y q && p y) (range_with_len a n) ≡ ((nat_le a q && nat_lt q (a + n)) && p q)
any_in_range p q a zero = grind (arith, nat_tests)
any_in_range p q a (suc n) =
    let rest : list_any (λ y. nat_eq y q && p y) (range_with_len (a + 1) n) ≡ ((nat_le (a + 1) q && nat_lt q (a + suc n)) && p q) =
    any_in_range p q (a + 1) n ∙ ap (λ m. (nat_le (a + 1) q && nat_lt q m) && p q) (omega arith) in
    ap (λ b. (nat_eq a q && p a) || b) rest ∙ any_in_step a q (a + suc n) (p a) (p q) (ap p) (omega arith)

pub contains-members_below : (n : ℕ) (p : ℕ → Bool) (q : ℕ) → set.contains (members_below n p) q ≡ (nat_lt q n && p q)
unfolding members_below
contains-members_below n p q =
    let all : ((nat_le 0 q && nat_lt q (0 + n)) && p q) ≡ (nat_lt q n && p q) = grind (arith, nat_tests) in
    contains-from_list_nat (filter p (range_with_len 0 n)) q ∙ any-filter (λ y. nat_eq y q) p (range_with_len 0 n) ∙ any_in_range p q 0 n ∙ all

pub members_below-same : (n : ℕ) (p t : ℕ → Bool) → ((q : ℕ) → q < n → p q ≡ t q) → members_below n p ≡ members_below n t
members_below-same n p t h = same_set nat_cmp_total nat_cmp-IsAntisymmetric _ _ (λ q. contains-members_below n p q ∙ guarded q ∙ sym (contains-members_below n t q))
  where
    guarded : (q : ℕ) → (nat_lt q n && p q) ≡ (nat_lt q n && t q)
    guarded q = elim (leb_tells (suc q) n) [ inl e ↦ simp (e.0, h q e.1) | inr e ↦ simp e.0 ]

pub members_below-insert : (n : ℕ) (p t : ℕ → Bool) (k : ℕ) → k < n → ((q : ℕ) → q < n → t q ≡ (nat_eq q k || p q)) → members_below n t ≡ set.insert (members_below n p) k
members_below-insert n p t k l h = same_set nat_cmp_total nat_cmp-IsAntisymmetric _ _ (λ q. contains-members_below n t q ∙ guarded q ∙ sym (contains-insert nat_cmp_total (members_below n p) k q ∙ ap (λ b. eq_by_cmp nat_cmp q k || b) (contains-members_below n p q)))
  where
    guarded : (q : ℕ) → (nat_lt q n && t q) ≡ (eq_by_cmp nat_cmp q k || (nat_lt q n && p q))
    guarded q = with_tie q (tie q)
      where
        tie : (q : ℕ) → eq_by_cmp nat_cmp q k ≡ nat_eq q k
        tie q = grind (arith, nat_tests)

        with_tie : (q : ℕ) → eq_by_cmp nat_cmp q k ≡ nat_eq q k → (nat_lt q n && t q) ≡ (eq_by_cmp nat_cmp q k || (nat_lt q n && p q))
        with_tie q e = elim (leb_tells (suc q) n) [ inl f ↦ simp (e, f.0, h q f.1) | inr f ↦ simp (e, f.0) (eq_false q k (omega arith)) ]

pub members_below-remove : (n : ℕ) (p t : ℕ → Bool) (k : ℕ) → ((q : ℕ) → q < n → t q ≡ (not (nat_eq q k) && p q)) → members_below n t ≡ set.remove (members_below n p) k
members_below-remove n p t k h = same_set nat_cmp_total nat_cmp-IsAntisymmetric _ _ (λ q. contains-members_below n t q ∙ guarded q ∙ sym (contains-remove nat_cmp_total (members_below n p) k q ∙ ap (λ b. not (eq_by_cmp nat_cmp q k) && b) (contains-members_below n p q)))
  where
    both : (a b : Bool) → (true && (not a && b)) ≡ (not a && (true && b))
    both a b = refl

    none : (a b : Bool) → false ≡ (not a && (false && b))
    none true b = refl
    none false b = refl

    with_tie : (q : ℕ) → eq_by_cmp nat_cmp q k ≡ nat_eq q k → (nat_lt q n && t q) ≡ (not (eq_by_cmp nat_cmp q k) && (nat_lt q n && p q))
    with_tie q e = elim (leb_tells (suc q) n) [
      | inl f ↦ (λ i. f.0 i && h q f.1 i) ∙ both (nat_eq q k) (p q) ∙ sym (λ i. not (e i) && (f.0 i && p q))
      | inr f ↦ ap (λ b. b && t q) f.0 ∙ none (eq_by_cmp nat_cmp q k) (p q) ∙ sym (ap (λ b. not (eq_by_cmp nat_cmp q k) && (b && p q)) f.0)
    ]

    guarded : (q : ℕ) → (nat_lt q n && t q) ≡ (not (eq_by_cmp nat_cmp q k) && (nat_lt q n && p q))
    guarded q = with_tie q (tie q)
      where
        tie : (q : ℕ) → eq_by_cmp nat_cmp q k ≡ nat_eq q k
        tie q = grind (arith, nat_tests)

len-from_list : (ks : List ℕ) → set.len (set.from_list {R = nat_cmp} ks) ≤ length ks
len-from_list [] = omega (arith, len-empty nat_cmp)
len-from_list (k ∷ ks) = grind (arith, len-from_list ks, len-insert nat_cmp_total (set.from_list {R = nat_cmp} ks) k)

length-filter : (p : ℕ → Bool) (xs : List ℕ) → length (filter p xs) ≤ length xs
length-filter p [] = omega arith
length-filter p (x ∷ xs) = grind (arith, length-filter p xs)

pub members_below-len : (n : ℕ) (p : ℕ → Bool) → set.len (members_below n p) ≤ n
unfolding members_below
members_below-len n p = omega (arith, len-from_list (filter p (range_with_len 0 n)), length-filter p (range_with_len 0 n), length-range_with_len 0 n)

pub members_below-empty : (n : ℕ) (p : ℕ → Bool) → ((q : ℕ) → p q ≡ false) → members_below n p ≡ set.empty
members_below-empty n p h = same_set nat_cmp_total nat_cmp-IsAntisymmetric _ _ (λ q. contains-members_below n p q ∙ and_false (nat_lt q n) (p q) (h q) ∙ sym (contains-empty nat_cmp q))
  where
    and_false : (x y : Bool) → y ≡ false → (x && y) ≡ false
    and_false true y e = e
    and_false false y e = refl

-- adding a member again changes nothing
pub insert-member : (s : set.FinSet nat_cmp) (k : ℕ) → set.contains s k ≡ true → s ≡ set.insert s k
insert-member s k h = same_set nat_cmp_total nat_cmp-IsAntisymmetric _ _ (λ q. held q ∙ sym (contains-insert nat_cmp_total s k q))
  where
    same : (q : ℕ) → q ≡ k → set.contains s q ≡ true
    same q e = ap (set.contains s) e ∙ h

    or_true : (b c : Bool) → (b ≡ true → c ≡ true) → c ≡ (b || c)
    or_true true c f = f refl
    or_true false c f = refl

    tie : (q : ℕ) → eq_by_cmp nat_cmp q k ≡ true → q ≡ k
    tie q e = grind (arith, nat_tests)

    held : (q : ℕ) → set.contains s q ≡ (eq_by_cmp nat_cmp q k || set.contains s q)
    held q = or_true (eq_by_cmp nat_cmp q k) (set.contains s q) (λ e. same q (tie q e))

pub len-new_member : (s : set.FinSet nat_cmp) (k : ℕ) → set.contains s k ≡ false → set.len (set.insert s k) ≡ set.len s + 1
len-new_member s k h = len-insert nat_cmp_total s k ∙ ap (λ b. cond b (set.len s) (set.len s + 1)) h

-- removing a number that is no member changes nothing
pub remove-absent : (s : set.FinSet nat_cmp) (k : ℕ) → set.contains s k ≡ false → set.remove s k ≡ s
remove-absent s k h = same_set nat_cmp_total nat_cmp-IsAntisymmetric _ _ (λ q. contains-remove nat_cmp_total s k q ∙ left q)
  where
    tie : (q : ℕ) → eq_by_cmp nat_cmp q k ≡ true → q ≡ k
    tie q e = grind (arith, nat_tests)

    kept : (b c : Bool) → (b ≡ true → c ≡ false) → (not b && c) ≡ c
    kept true c f = sym (f refl)
    kept false c f = refl

    left : (q : ℕ) → (not (eq_by_cmp nat_cmp q k) && set.contains s q) ≡ set.contains s q
    left q = kept (eq_by_cmp nat_cmp q k) (set.contains s q) (λ e. ap (set.contains s) (tie q e) ∙ h)

-- adding and removing a new number changes nothing
pub remove-inserted : (s : set.FinSet nat_cmp) (k : ℕ) → set.contains s k ≡ false → set.remove (set.insert s k) k ≡ s
remove-inserted s k h = same_set nat_cmp_total nat_cmp-IsAntisymmetric _ _ (λ q. contains-remove nat_cmp_total (set.insert s k) k q ∙ ap (λ b. not (eq_by_cmp nat_cmp q k) && b) (contains-insert nat_cmp_total s k q) ∙ left q)
  where
    tie : (q : ℕ) → eq_by_cmp nat_cmp q k ≡ true → q ≡ k
    tie q e = grind (arith, nat_tests)

    kept : (b c : Bool) → (b ≡ true → c ≡ false) → (not b && (b || c)) ≡ c
    kept true c f = sym (f refl)
    kept false c f = refl

    left : (q : ℕ) → (not (eq_by_cmp nat_cmp q k) && (eq_by_cmp nat_cmp q k || set.contains s q)) ≡ set.contains s q
    left q = kept (eq_by_cmp nat_cmp q k) (set.contains s q) (λ e. ap (set.contains s) (tie q e) ∙ h)

-- the next number is a member or not
pub members_below-more : (n : ℕ) (p : ℕ → Bool) → set.len (members_below (suc n) p) ≡ cond (p n) (set.len (members_below n p) + 1) (set.len (members_below n p))
members_below-more n p = go (p n) refl
  where
    new : set.contains (members_below n p) n ≡ false
    new = contains-members_below n p n ∙ ap (λ b. b && p n) (none n)
      where
        none : (m : ℕ) → nat_lt m m ≡ false
        none m = grind (arith, nat_tests)

    inside : (q : ℕ) → p n ≡ true → (nat_lt q (suc n) && p q) ≡ (eq_by_cmp nat_cmp q n || (nat_lt q n && p q))
    inside q e = tests q (λ f. ap p f ∙ e)
      where
        tests : (q : ℕ) → (q ≡ n → p q ≡ true) → (nat_lt q (suc n) && p q) ≡ (eq_by_cmp nat_cmp q n || (nat_lt q n && p q))
        tests q h = grind (arith, nat_tests, h)

    outside : (q : ℕ) → p n ≡ false → (nat_lt q (suc n) && p q) ≡ (nat_lt q n && p q)
    outside q e = tests q (λ f. ap p f ∙ e)
      where
        tests : (q : ℕ) → (q ≡ n → p q ≡ false) → (nat_lt q (suc n) && p q) ≡ (nat_lt q n && p q)
        tests q h = grind (arith, nat_tests, h)

    go : (b : Bool) → p n ≡ b → set.len (members_below (suc n) p) ≡ cond b (set.len (members_below n p) + 1) (set.len (members_below n p))
    go true e = ap set.len (same_set nat_cmp_total nat_cmp-IsAntisymmetric _ _ (λ q. contains-members_below (suc n) p q ∙ inside q e ∙ sym (contains-insert nat_cmp_total (members_below n p) n q ∙ ap (λ b. eq_by_cmp nat_cmp q n || b) (contains-members_below n p q)))) ∙ len-new_member (members_below n p) n new
    go false e = ap set.len (same_set nat_cmp_total nat_cmp-IsAntisymmetric _ _ (λ q. contains-members_below (suc n) p q ∙ outside q e ∙ sym (contains-members_below n p q)))
