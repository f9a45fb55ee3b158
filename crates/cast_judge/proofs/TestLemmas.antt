-- What a test tells of what it tests.
use Rattle.std.proofs.Common.{◌≡◌, ◌≢◌, ℕ, ◌&&◌, Bool, true, false, not, nat_eq, refl, arith}
use Rattle.std.proofs.lemmas.Bool.Decides.{nat_tests}

-- ---- numbers

pub same_number : (m n : ℕ) → nat_eq m n ≡ true → m ≡ n
same_number m n e = grind (arith, nat_tests)

pub other_number : (m n : ℕ) → nat_eq m n ≡ false → m ≢ n
other_number m n e = grind (arith, nat_tests)

pub test_swaps : (m n : ℕ) → nat_eq m n ≡ nat_eq n m
test_swaps m n = grind (arith, nat_tests)

-- ---- tests of tests

pub not_false : (b : Bool) → not b ≡ false → b ≡ true
not_false true e = refl
not_false false e = absurd (cc)

pub and_true : (a b : Bool) → (a && b) ≡ true → (a ≡ true) × (b ≡ true)
and_true true b e = (refl, e)
and_true false b e = absurd (cc)
