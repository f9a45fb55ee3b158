-- What still waits and what is handed on, behind a front that was looked through, and once a parcel was taken over.
use Rattle.std.proofs.Common.{◌≡◌, ◌≢◌, ◌<◌, ◌≤◌, Bool, true, false, not, ◌||◌, cond, nat_lt, ℕ, zero, suc, List, [], ◌∷◌, ◌++◌, length, take, drop, slice_get, Some, refl, sym, ap, ◌∙◌, subst, append-nil, append_assoc, arith}
use Rattle.std.proofs.lemmas.Bool.Decides.{nat_tests}
use Rattle.std.specs.List.{filter}
use Rattle.cast_journal.specs.declared.parcel.Parcel.{Parcel}
use Rattle.cast_carrier.specs.declared.carrier.Delayed.{Delayed}
use Rattle.cast_carrier.specs.declared.fate.Fate.{Fate}
use Rattle.cast_box.specs.Ends.{PutterEnd}
use Rattle.cast_carrier.specs.Carriers.{WaitsBy, waiting_on, is_early, is_due, due_by, HandsOn, HandsOnAll, HandsOnUnless, HandsOver}
use Rattle.cast_carrier.proofs.Lists.{picked, left_out}

module _ {A : Type 0} (test : A → Bool) where
  -- the first n as they are, and of the others those that pass the test
  abbrev pub sifted : ℕ → List A → List A
  sifted n xs = take n xs ++ filter test (drop n xs)

  pub sifted_kept : (n : ℕ) (xs : List A) (x : A) → slice_get xs n ≡ Some x → test x ≡ true → sifted (suc n) xs ≡ sifted n xs
  sifted_kept n [] x at passes = absurd cc
  sifted_kept zero (y ∷ ys) x at passes = let is : y ≡ x = cc in sym (picked (test y) y (filter test ys) (ap test is ∙ passes))
  sifted_kept (suc n) (y ∷ ys) x at passes = ap (λ l. y ∷ l) (sifted_kept n ys x at passes)

  pub sifted_gone : (n : ℕ) (xs : List A) (x : A) → slice_get xs n ≡ Some x → test x ≡ false → sifted n (take n xs ++ drop (suc n) xs) ≡ sifted n xs
  sifted_gone n [] x at fails = absurd cc
  sifted_gone zero (y ∷ ys) x at fails = let is : y ≡ x = cc in sym (left_out (test y) y (filter test ys) (ap test is ∙ fails))
  sifted_gone (suc n) (y ∷ ys) x at fails = ap (λ l. y ∷ l) (sifted_gone n ys x at fails)

  pub sifted_all : (n : ℕ) (xs : List A) → length xs ≤ n → sifted n xs ≡ xs
  sifted_all zero [] all = refl
  sifted_all (suc n) [] all = refl
  sifted_all zero (y ∷ ys) all = absurd (omega (arith, all))
  sifted_all (suc n) (y ∷ ys) all = ap (λ l. y ∷ l) (sifted_all n ys (omega (arith, all)))

pub early : (n : ℕ) → n ≢ 0 → nat_lt 0 n ≡ true
early n h = grind (arith, nat_tests, h)

pub waits_longer : (n : ℕ) → 0 < n → nat_lt 0 n ≡ true
waits_longer n h = grind (arith, nat_tests, h)

pub goes_now : (n : ℕ) → n ≤ 0 → nat_lt 0 n ≡ false
goes_now n h = grind (arith, nat_tests, h)

pub waits_none : (fate : Fate) (old : List Delayed) (x : Parcel) (new : List Delayed) → new ≡ waiting_on x.frame.to old → WaitsBy fate old x new
waits_none fate old x new is = (false, λ h. absurd cc, is ∙ sym (append-nil (waiting_on x.frame.to old)))

pub waits_kept : (fate : Fate) (old : List Delayed) (x : Parcel) (rest new : List Delayed) (kept : Bool) → fate.lost ≡ false → 0 < fate.delay
    → rest ≡ waiting_on x.frame.to old → new ≡ cond kept (rest ++ (record { left = fate.delay; twice = fate.twice; parcel = x }) ∷ []) rest → WaitsBy fate old x new
waits_kept fate old x rest new true found delayed left is = (true, λ h. (found, delayed), is ∙ ap (λ l. l ++ (record { left = fate.delay; twice = fate.twice; parcel = x }) ∷ []) left)
waits_kept fate old x rest new false found delayed left is = waits_none fate old x new (is ∙ left)

-- ---- what is handed on

-- one more, behind the others
pub hands_more : (room : ℕ) (a b c : List (PutterEnd Parcel)) (ds : List Delayed) (d : Delayed) → HandsOnAll room a ds b → HandsOn room d.twice b d.parcel c → HandsOnAll room a (ds ++ d ∷ []) c
unfolding HandsOnAll
hands_more room a b c [] d h on = (c, subst (λ l. HandsOn room d.twice l d.parcel c) h on, refl)
hands_more room a b c (x ∷ ds) d h on = (h.0, h.1, hands_more room h.0 b c ds d h.2 on)

pub hands_none : (room : ℕ) (a : List (PutterEnd Parcel)) → HandsOnAll room a [] a
unfolding HandsOnAll
hands_none room a = refl

-- the next of those that are left passes the test, or does not
module _ {A : Type 0} (test : A → Bool) where
  pub next_passes : (n : ℕ) (xs : List A) (x : A) → slice_get xs n ≡ Some x → test x ≡ true → filter test (drop n xs) ≡ x ∷ filter test (drop (suc n) xs)
  next_passes n [] x at passes = absurd cc
  next_passes zero (y ∷ ys) x at passes = let is : y ≡ x = cc in picked (test y) y (filter test ys) (ap test is ∙ passes) ∙ ap (λ z. z ∷ filter test ys) is
  next_passes (suc n) (y ∷ ys) x at passes = next_passes n ys x at passes

  pub next_fails : (n : ℕ) (xs : List A) (x : A) → slice_get xs n ≡ Some x → test x ≡ false → filter test (drop (suc n) xs) ≡ filter test (drop n xs)
  next_fails n [] x at fails = absurd cc
  next_fails zero (y ∷ ys) x at fails = let is : y ≡ x = cc in sym (left_out (test y) y (filter test ys) (ap test is ∙ fails))
  next_fails (suc n) (y ∷ ys) x at fails = next_fails n ys x at fails

  -- what is left where one was taken out
  pub rest_behind : (n : ℕ) (xs : List A) (x : A) → slice_get xs n ≡ Some x → drop n (take n xs ++ drop (suc n) xs) ≡ drop (suc n) xs
  rest_behind n [] x at = absurd cc
  rest_behind zero (y ∷ ys) x at = refl
  rest_behind (suc n) (y ∷ ys) x at = rest_behind n ys x at

  pub none_behind : (n : ℕ) (xs : List A) → length xs ≤ n → drop n xs ≡ []
  none_behind zero [] all = refl
  none_behind (suc n) [] all = refl
  none_behind zero (y ∷ ys) all = absurd (omega (arith, all))
  none_behind (suc n) (y ∷ ys) all = none_behind n ys (omega (arith, all))

-- the first of those that are due were handed on; the others stand from here on
abbrev pub HandedSo : (room : ℕ) → List (PutterEnd Parcel) → List Delayed → ℕ → List (PutterEnd Parcel) → List Delayed → Type 0
HandedSo room a old n b delayed = (done : List Delayed) × HandsOnAll room a done b × (done ++ filter is_due (drop n delayed) ≡ filter is_due old)

pub handed_first : (room : ℕ) (a : List (PutterEnd Parcel)) (old : List Delayed) → HandedSo room a old 0 a old
handed_first room a old = ([], hands_none room a, refl)

pub handed_next : (room : ℕ) (a b c : List (PutterEnd Parcel)) (old delayed : List Delayed) (n : ℕ) (d : Delayed) → HandedSo room a old n b delayed → slice_get delayed n ≡ Some d → is_early d ≡ false → HandsOn room d.twice b d.parcel c
    → HandedSo room a old n c (take n delayed ++ drop (suc n) delayed)
handed_next room a b c old delayed n d so at late on = (
  so.0 ++ d ∷ [],
  hands_more room a b c so.0 d so.1 on,
  append_assoc so.0 (d ∷ []) _ ∙ ap (λ l. so.0 ++ d ∷ filter is_due l) (rest_behind is_due n delayed d at) ∙ ap (λ l. so.0 ++ l) (sym (next_passes is_due n delayed d at (ap not late))) ∙ so.2,
)

pub handed_past : (room : ℕ) (a b : List (PutterEnd Parcel)) (old delayed : List Delayed) (n : ℕ) (d : Delayed) → HandedSo room a old n b delayed → slice_get delayed n ≡ Some d → is_early d ≡ true → HandedSo room a old (suc n) b delayed
handed_past room a b old delayed n d so at early_now = (so.0, so.1, ap (λ l. so.0 ++ l) (next_fails is_due n delayed d at (ap not early_now)) ∙ so.2)

pub handed_all : (room : ℕ) (a b : List (PutterEnd Parcel)) (old delayed : List Delayed) (n : ℕ) → HandedSo room a old n b delayed → length delayed ≤ n → HandsOnAll room a (filter is_due old) b
handed_all room a b old delayed n so all =
    let done : so.0 ≡ filter is_due old = sym (append-nil so.0) ∙ ap (λ l. so.0 ++ filter is_due l) (sym (none_behind is_due n delayed all)) ∙ so.2 in
    subst (λ l. HandsOnAll room a l b) done so.1

-- and then the parcel, by its fate
pub hands_nothing : (room : ℕ) (fate : Fate) (a b : List (PutterEnd Parcel)) (delayed : List Delayed) (x : Parcel) → HandsOnAll room a (due_by x.frame.to delayed) b → fate.lost || nat_lt 0 fate.delay ≡ true → HandsOver room fate a delayed x b
hands_nothing room fate a b delayed x all stays = (b, all, subst (λ t. HandsOnUnless room t fate.twice b x b) (sym stays) refl)

pub hands_parcel : (room : ℕ) (fate : Fate) (a b c : List (PutterEnd Parcel)) (delayed : List Delayed) (x : Parcel) → HandsOnAll room a (due_by x.frame.to delayed) b → fate.lost || nat_lt 0 fate.delay ≡ false → HandsOn room fate.twice b x c → HandsOver room fate a delayed x c
hands_parcel room fate a b c delayed x all goes on = (b, all, subst (λ t. HandsOnUnless room t fate.twice b x c) (sym goes) on)
