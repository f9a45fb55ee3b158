-- No actor waits too long where each that has waited longest goes first.
use Rattle.std.proofs.Common.{◌≡◌, ◌≢◌, ◌<◌, ◌≤◌, ◌+◌, ◌-◌, ◌⊎◌, ⊎_elim, ℕ, zero, suc, Bool, true, false, cond, List, [], ◌∷◌, length, count_by, slice_get, slice_set, get_or, take, swap_remove, Some, refl, sym, ap, ◌∙◌, subst, arith}
use Rattle.std.proofs.lemmas.Bool.{false_from_ne_true}
use Rattle.std.proofs.lemmas.Bool.Decides.{nat_tests}
use Rattle.std.proofs.lemmas.List.{length-set, length-take}
use Rattle.std.proofs.lemmas.List.Sums.{sum_by-cons, sum_by-set, sum_by-swap_remove, count_by-le-length}
use Rattle.std.proofs.lemmas.Option.{slice_get_within, get_or_from_slice_get, slice_get-get_or}
use Prim.{yes, no}
use Rattle.std.proofs.Math.Decide.{dec_lt}
use Rattle.cast_box.proofs.Same.{get_set}
use Rattle.cast_carrier.proofs.Copying.{same_read}
use Rattle.cast_run.specs.declared.waits.LiveActor.{LiveActor}
use Rattle.cast_run.specs.Waits.{WaitsState, OfEach, NoneWaits, WaitsLongest, IsNext, NoneWaitsTooLong, has_waited, FewWait, KeepsWaits, IsOldest}

abbrev as_one : Bool → ℕ
as_one b = cond b 1 0

-- none pass, where each fails
none_pass : {X : Type 0} (test : X → Bool) (xs : List X) → ((p : ℕ) (x : X) → slice_get xs p ≡ Some x → test x ≡ false) → count_by test xs ≡ 0
none_pass {X} test [] fails = refl
none_pass {X} test (x ∷ xs) fails =
    let f : X → ℕ = λ y. cond (test y) 1 0 in
    let here = ap as_one (fails 0 x refl) in
    let rest = none_pass test xs (λ p y at. fails (suc p) y at) in
    omega (arith, sum_by-cons f x xs, here, rest)

-- where none pass, each fails
pub none_passes : {X : Type 0} (test : X → Bool) (xs : List X) (p : ℕ) (x : X) → count_by test xs ≤ 0 → slice_get xs p ≡ Some x → test x ≡ false
none_passes {X} test [] p x few at = absurd cc
none_passes {X} test (y ∷ ys) zero x few at =
    let same : y ≡ x = cc in
    let f : X → ℕ = λ z. cond (test z) 1 0 in
    let all = sum_by-cons f y ys in
    ap test (sym same) ∙ false_from_ne_true (test y) (λ yes. let one = ap as_one yes in omega (arith, all, one, few))
none_passes {X} test (y ∷ ys) (suc p) x few at =
    let f : X → ℕ = λ z. cond (test z) 1 0 in
    let all = sum_by-cons f y ys in
    none_passes test ys p x (omega (arith, all, few)) at

later_one : (steps n : ℕ) (x : LiveActor) → has_waited (steps + 1) (n + 1) x ≡ has_waited steps n x
later_one steps n x = grind (arith, nat_tests)

-- one step later all have waited for one more
later : (steps n : ℕ) (xs : List LiveActor) → count_by (has_waited (steps + 1) (n + 1)) xs ≡ count_by (has_waited steps n) xs
later steps n [] = refl
later steps n (x ∷ xs) =
    let f : LiveActor → ℕ = λ a. cond (has_waited (steps + 1) (n + 1) a) 1 0 in
    let g : LiveActor → ℕ = λ a. cond (has_waited steps n a) 1 0 in
    let here = ap as_one (later_one steps n x) in
    omega (arith, sum_by-cons f x xs, sum_by-cons g x xs, here, later steps n xs)

waited_not : (steps n : ℕ) (a : LiveActor) → steps < a.last + n → has_waited steps n a ≡ false
waited_not steps n a less = grind (arith, nat_tests)

-- after its step an actor has waited for none
fresh_not : (place : _) (steps n : ℕ) → has_waited (steps + 1) (n + 1) (record { place = place; last = steps + 1 }) ≡ false
fresh_not place steps n = grind (arith, nat_tests)

pub none_waits : (w : WaitsState) → FewWait w.live w.steps w.longest w.most → NoneWaitsTooLong w
none_waits w few p a at =
    let none = few w.most in
    let is = none_passes (has_waited w.steps (w.longest + w.most)) w.live p a (omega (arith, none)) at in
    grind (arith, nat_tests)

-- the one that was read at its place is next
pub next_read : (w : WaitsState) (p : ℕ) (a b : LiveActor) → IsNext w p a → slice_get w.live p ≡ Some b → IsNext w p b
next_read w p a b next at = subst (IsNext w p) (same_read w.live p a b next.0 at) next

module _ (w : WaitsState) (oldest : ℕ) (keeps : KeepsWaits w.live w.steps oldest w.longest w.most) (p : ℕ) (a : LiveActor) (next : IsNext w p a) where
  abbrev stepped : LiveActor
  stepped = record { place = a.place; last = w.steps + 1 }

  within : p < length w.live
  within = slice_get_within w.live p a next.0

  -- where it has waited for less, so has each
  all_less : (n : ℕ) → has_waited w.steps (w.longest + n) a ≡ false → (q : ℕ) (b : LiveActor) → slice_get w.live q ≡ Some b → has_waited w.steps (w.longest + n) b ≡ false
  all_less n less q b at =
      ⊎_elim
      (λ (none : NoneWaits w.longest w). let it = none q b at in waited_not w.steps (w.longest + n) b (omega (arith, it)))
      (λ (first : WaitsLongest w a). let it = first.1 q b at in grind (arith, nat_tests))
      next.1

  few_by : (t : Bool) (n now then most : ℕ) → (t ≡ false → then ≡ 0) → now + cond t 1 0 ≡ then → then ≤ most - n → now ≤ most - (n + 1)
  few_by true n now then most none sum few = omega (arith, sum, few)
  few_by false n now then most none sum few = let e = none refl in omega (arith, sum, e)

  few_later : (n : ℕ) → count_by (has_waited (w.steps + 1) (w.longest + n + 1)) (slice_set w.live p stepped) ≤ w.most - (n + 1)
  few_later n =
      let f : LiveActor → ℕ = λ b. cond (has_waited (w.steps + 1) (w.longest + n + 1) b) 1 0 in
      let none : f stepped ≡ 0 = ap as_one (fresh_not a.place w.steps (w.longest + n)) in
      let sum = sum_by-set f w.live p stepped a within in
      let one : f (get_or w.live p a) ≡ as_one (has_waited w.steps (w.longest + n) a) = ap f (get_or_from_slice_get w.live p a a next.0) ∙ ap as_one (later_one w.steps (w.longest + n) a) in
      let before = later w.steps (w.longest + n) w.live in
      few_by (has_waited w.steps (w.longest + n) a) n _ _ w.most
      (λ less. none_pass (has_waited w.steps (w.longest + n)) w.live (all_less n less))
      (omega (arith, sum, one, none, before))
      (keeps.3 n)

  few_next : (k : ℕ) → count_by (has_waited (w.steps + 1) (w.longest + k)) (slice_set w.live p stepped) ≤ w.most - k
  few_next zero =
      let all = count_by-le-length (has_waited (w.steps + 1) (w.longest + 0)) (slice_set w.live p stepped) in
      let long = length-set w.live p stepped in
      omega (arith, all, long, keeps.0)
  few_next (suc n) =
      let more : w.longest + n + 1 ≡ w.longest + suc n = omega arith in
      let same = ap (λ m. count_by (has_waited (w.steps + 1) m) (slice_set w.live p stepped)) more in
      omega (arith, same, few_later n)

  pub keeps_next : KeepsWaits (slice_set w.live p stepped) (w.steps + 1) oldest w.longest w.most
  keeps_next = (
    (let long = length-set w.live p stepped in let few = keeps.0 in omega (arith, long, few)),
    (let old = keeps.1 in omega (arith, old)),
    λ q b at. ⊎_elim
        (λ (t : (q ≡ p) × (stepped ≡ b)). let last = ap (λ (z : LiveActor). z.last) t.1 in let old = keeps.1 in (omega (arith, last, old), omega (arith, last)))
        (λ (t : (q ≢ p) × (slice_get w.live q ≡ Some b)). let it = keeps.2 q b t.1 in (it.0, (let most = it.1 in omega (arith, most))))
        (get_set w.live p q stepped b at),
    few_next,
  )

-- ---- an actor leaves

taken_at : {X : Type 0} (n : ℕ) (xs : List X) (q : ℕ) (b : X) → slice_get (take n xs) q ≡ Some b → slice_get xs q ≡ Some b
taken_at zero [] q b at = absurd cc
taken_at zero (x ∷ xs) q b at = absurd cc
taken_at (suc n) [] q b at = absurd cc
taken_at (suc n) (x ∷ xs) zero b at = at
taken_at (suc n) (x ∷ xs) (suc q) b at = taken_at n xs q b at

pub left_each : {X : Type 0} (P : X → Type 0) (xs : List X) (p : ℕ) (d : X) → p < length xs → ((q : ℕ) (b : X) → slice_get xs q ≡ Some b → P b) → (q : ℕ) (b : X) → slice_get (swap_remove xs p d) q ≡ Some b → P b
left_each P xs p d within each q b at =
    let end = length xs - 1 in
    ⊎_elim
    (λ (t : (q ≡ p) × (get_or xs end d ≡ b)). each end b (slice_get-get_or xs end d (omega (arith, within)) ∙ ap Some t.1))
    (λ (t : (q ≢ p) × (slice_get xs q ≡ Some b)). each q b t.1)
    (get_set xs p q (get_or xs end d) b (taken_at end (slice_set xs p (get_or xs end d)) q b at))

left_length : {X : Type 0} (xs : List X) (p : ℕ) (d : X) → p < length xs → length (swap_remove xs p d) ≤ length xs
left_length xs p d within =
    let one = length-take (length xs - 1) (slice_set xs p (get_or xs (length xs - 1) d)) in
    let two = length-set xs p (get_or xs (length xs - 1) d) in
    omega (arith, one, two)

pub keeps_left : (live : List LiveActor) (steps oldest longest most p : ℕ) (d : LiveActor) → p < length live → KeepsWaits live steps oldest longest most → KeepsWaits (swap_remove live p d) steps oldest longest most
keeps_left live steps oldest longest most p d within keeps = (
  (let fewer = left_length live p d within in let few = keeps.0 in omega (arith, fewer, few)),
  keeps.1,
  left_each (λ a. (oldest ≤ a.last) × (a.last ≤ steps)) live p d within keeps.2,
  λ k.
      let f : LiveActor → ℕ = λ b. cond (has_waited steps (longest + k) b) 1 0 in
      let sum = sum_by-swap_remove f live p d within in
      let few = keeps.3 k in
      omega (arith, sum, few),
)

-- ---- actors that have taken no step

pub keeps_first : (live : List LiveActor) (longest most : ℕ) → most ≡ length live → OfEach (λ a. a.last ≡ 0) live → KeepsWaits live 0 0 longest most
keeps_first live longest most all new = (
  omega (arith, all),
  omega arith,
  λ p a at. let e = new p a at in (omega (arith, e), omega (arith, e)),
  few,
)
  where
    few : (k : ℕ) → count_by (has_waited 0 (longest + k)) live ≤ most - k
    few zero = let some = count_by-le-length (has_waited 0 (longest + 0)) live in omega (arith, some, all)
    few (suc n) =
        let none = none_pass (has_waited 0 (longest + suc n)) live (λ p a at. let e = new p a at in waited_not 0 (longest + suc n) a (omega arith)) in
        omega (arith, none)

-- ---- who has waited longest

pub oldest_first : (live : List LiveActor) → 0 < length live → IsOldest live 1 0
oldest_first [] some = absurd (omega arith)
oldest_first (a ∷ live) some = (a, refl, λ q b less there. let zero_is : q ≡ 0 = omega (arith, less) in let last = ap (λ (z : LiveActor). z.last) (same_read (a ∷ live) 0 a b refl (ap (slice_get (a ∷ live)) (sym zero_is) ∙ there)) in omega (arith, last))

module _ (live : List LiveActor) (n p : ℕ) (d : LiveActor) (within : n < length live) (old : IsOldest live n p) where
  at_oldest : get_or live p d ≡ old.0
  at_oldest = get_or_from_slice_get live p old.0 d old.1

  up_to : (y : LiveActor) → y.last ≤ (get_or live n d).last → y.last ≤ old.0.last → (q : ℕ) (b : LiveActor) → q < n + 1 → slice_get live q ≡ Some b → y.last ≤ b.last
  up_to y new least q b less at = elim (dec_lt q n) [
    | yes early ↦ (let it = old.2 q b early at in omega (arith, it, least))
    | no late ↦
        let now : q ≡ n = omega (arith, less, late) in
        let last = ap (λ (z : LiveActor). z.last) (same_read live n (get_or live n d) b (slice_get-get_or live n d within) (ap (slice_get live) (sym now) ∙ at)) in
        omega (arith, last, new)
  ]

  -- the next one is older
  pub oldest_now : (get_or live n d).last < (get_or live p d).last → IsOldest live (n + 1) n
  oldest_now less =
      let is = ap (λ (z : LiveActor). z.last) at_oldest in
      (get_or live n d, slice_get-get_or live n d within, up_to (get_or live n d) (omega arith) (omega (arith, less, is)))

  -- it is not
  pub oldest_still : (get_or live p d).last ≤ (get_or live n d).last → IsOldest live (n + 1) p
  oldest_still more =
      let is = ap (λ (z : LiveActor). z.last) at_oldest in
      (old.0, old.1, up_to old.0 (omega (arith, more, is)) (omega arith))
