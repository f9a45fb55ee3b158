-- What tests of numbers answer, beside what the standard library has.
use Rattle.std.specs.Prelude.{◌≡◌, ◌≢◌, ℕ, ◌<◌, ◌==◌, nat_eq, nat_lt, true, false, not}
use Rattle.std.specs.Ordering.{nat_cmp, eq_by_cmp}
use Rattle.std.specs.BTreeMap.{is_at}
use Rattle.std.proofs.Common.{arith}
use Rattle.std.proofs.lemmas.Bool.Decides.{nat_tests}

pub is_below : (m n : ℕ) → not (nat_lt m n) ≡ false → m < n
is_below m n e = grind (arith, nat_tests)

pub eq_same : (n : ℕ) → nat_eq n n ≡ true
eq_same n = grind (arith, nat_tests)

pub turned_about : (m n : ℕ) → (m == n) ≡ (n == m)
turned_about m n = grind (arith, nat_tests)

-- ---- the tests of maps and sets, which stand on the order

pub cmp_eq : (m n : ℕ) → eq_by_cmp nat_cmp m n ≡ (m == n)
cmp_eq m n = grind (arith, nat_tests)

pub cmp_same : (m n : ℕ) → m ≡ n → eq_by_cmp nat_cmp m n ≡ true
cmp_same m n e = grind (arith, nat_tests)

pub cmp_other : (m n : ℕ) → m ≢ n → eq_by_cmp nat_cmp m n ≡ false
cmp_other m n e = grind (arith, nat_tests)

pub tie : (m n : ℕ) → is_at (nat_cmp n) m ≡ nat_eq m n
tie m n = grind (arith, nat_tests)
