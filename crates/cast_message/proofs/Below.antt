-- The members of a set are the numbers below a bound that pass a test, and the bound is one more.
use Rattle.std.specs.Prelude.{◌≡◌, ℕ, ◌+◌, nat_lt, Bool, true, false, ◌&&◌, ◌||◌}
use Rattle.std.specs.Ordering.{nat_cmp, eq_by_cmp}
use Rattle.std.specs.Cmp.{nat_cmp_total}
use Rattle.std.specs.FinSet as set
use Rattle.std.specs.FinSet.{contains-empty, contains-insert}
use Rattle.std.proofs.Common.{ap, ◌∙◌, arith}
use Rattle.std.proofs.lemmas.Bool.Decides.{nat_tests}

pub none_below : (b : ℕ → Bool) (q : ℕ) → set.contains (set.empty {R = nat_cmp}) q ≡ (nat_lt q 0 && b q)
none_below b q = contains-empty nat_cmp q ∙ none q (b q)
  where
    none : (n : ℕ) (c : Bool) → false ≡ (nat_lt n 0 && c)
    none n c = grind (arith, nat_tests)

pub one_below : (b : ℕ → Bool) (s : set.FinSet nat_cmp) (n : ℕ) → ((q : ℕ) → set.contains s q ≡ (nat_lt q n && b q)) → b n ≡ true → (q : ℕ) → set.contains (set.insert s n) q ≡ (nat_lt q (n + 1) && b q)
one_below b s n h e q = contains-insert nat_cmp_total s n q ∙ ap (λ c. eq_by_cmp nat_cmp q n || c) (h q) ∙ inside q (b q) (λ f. ap b f ∙ e)
  where
    inside : (q : ℕ) (c : Bool) → (q ≡ n → c ≡ true) → (eq_by_cmp nat_cmp q n || (nat_lt q n && c)) ≡ (nat_lt q (n + 1) && c)
    inside q c h = grind (arith, nat_tests, h)

pub no_more_below : (b : ℕ → Bool) (s : set.FinSet nat_cmp) (n : ℕ) → ((q : ℕ) → set.contains s q ≡ (nat_lt q n && b q)) → b n ≡ false → (q : ℕ) → set.contains s q ≡ (nat_lt q (n + 1) && b q)
no_more_below b s n h e q = h q ∙ outside q (b q) (λ f. ap b f ∙ e)
  where
    outside : (q : ℕ) (c : Bool) → (q ≡ n → c ≡ false) → (nat_lt q n && c) ≡ (nat_lt q (n + 1) && c)
    outside q c h = grind (arith, nat_tests, h)
