-- What is known of the parcels whose arrivals were logged.
use Rattle.std.proofs.Common.{◌≡◌, ℕ, ◌+◌, ◌≤◌, zero, suc, ◌==◌, Bool, true, false, cond, List, [], ◌∷◌, ◌++◌, map, Option, Some, count_by, sym, refl, ap, ◌∙◌, subst, arith}
use Rattle.std.specs.Option.{option_to_list}
use Rattle.std.proofs.lemmas.List.Sums.{sum_by-cons, sum_by-append, sum_by_push}
use Rattle.cast_message.specs.declared.message.Frame.{Frame}
use Rattle.cast_model.specs.Steps.{Step, Ordered, Sent, Acknowledged, Arrived, Stopped}
use Rattle.cast_node.specs.Linked.{Trail, EachArrival, OnArrival}
use Rattle.cast_journal.specs.declared.parcel.Parcel.{Parcel}
use Rattle.cast_journal.specs.Lists.{Has}
use Rattle.cast_journal.proofs.Lists.{has_left, has_last, has_filter}
use Rattle.cast_journal.specs.Runs.{parcel, parcels_for, arrived_by, arrivals_in, Adds, AreArrivals, CameBefore}

has_number : (taken : List (ℕ × Parcel)) (x : Parcel) → Has (map (λ (m : ℕ × Parcel). m.1) taken) x → (n : ℕ) × Has taken (n, x)
has_number [] x h = let e = h.1 in absurd cc
has_number (m ∷ ms) x (zero, e) = let same : m.1 ≡ x = cc in (m.0, (zero, ap (λ (y : Parcel). Some (m.0, y)) same))
has_number (m ∷ ms) x (suc i, e) = let it = has_number ms x (i, e) in (it.0, (suc it.1.0, it.1.1))

-- a parcel that arrived was taken
pub was_taken : (p : ℕ) (taken : List (ℕ × Parcel)) (xs : List Parcel) (waiting : Option Parcel) → parcels_for p taken ≡ xs ++ option_to_list waiting
    → (x : Parcel) → Has xs x → (n : ℕ) × Has taken (n, x)
was_taken p taken xs waiting is x h =
    has_number taken x (has_filter (λ x. x.frame.to == p) (map (λ (m : ℕ × Parcel). m.1) taken) x (subst (λ l. Has l x) (sym is) (has_left xs (option_to_list waiting) x h)))

module _ (taken : List (ℕ × Parcel)) where
  step_came : (stamp : ℕ) (step : Step) (before xs : List Parcel) → Adds stamp step before xs → ((x : Parcel) → Has xs x → (n : ℕ) × Has taken (n, x)) → OnArrival (CameBefore taken) stamp step
  step_came stamp (Ordered item) before xs a was = tt
  step_came stamp (Sent to slot) before xs a was = tt
  step_came stamp (Acknowledged to slot) before xs a was = tt
  step_came stamp (Arrived frame) before xs a was =
      let it = was a.0 (subst (λ l. Has l a.0) (sym a.1) (has_last before a.0)) in
      subst (λ f. CameBefore taken stamp f) a.2 (it.0, a.0.stamp, it.1, a.3)
  step_came stamp Stopped before xs a was = tt

  has_more : (stamp : ℕ) (step : Step) (before xs : List Parcel) → Adds stamp step before xs → (x : Parcel) → Has before x → Has xs x
  has_more stamp (Ordered item) before xs a x h = subst (λ l. Has l x) (sym a) h
  has_more stamp (Sent to slot) before xs a x h = subst (λ l. Has l x) (sym a) h
  has_more stamp (Acknowledged to slot) before xs a x h = subst (λ l. Has l x) (sym a) h
  has_more stamp (Arrived frame) before xs a x h = subst (λ l. Has l x) (sym a.1) (has_left before (a.0 ∷ []) x h)
  has_more stamp Stopped before xs a x h = subst (λ l. Has l x) (sym a) h

  -- each frame that arrived came before, in a parcel that was taken
  pub arrivals_came : (trail : Trail) (xs : List Parcel) → AreArrivals trail xs → ((x : Parcel) → Has xs x → (n : ℕ) × Has taken (n, x)) → EachArrival (CameBefore taken) trail
  unfolding EachArrival AreArrivals
  arrivals_came [] xs a was = tt
  arrivals_came (mark ∷ trail) xs a was = (
    arrivals_came trail a.0 a.1 (λ x h. was x (has_more mark.stamp mark.step a.0 xs a.2 x h)),
    step_came mark.stamp mark.step a.0 xs a.2 was,
  )

-- however frames are told apart, no more of them arrived than were in the parcels that were taken
abbrev pub HasTakenEach : List (ℕ × Parcel) → Trail → Type 0
HasTakenEach taken trail =
    (test : Frame → Bool) → count_by test (arrivals_in trail) ≤ count_by (λ (m : ℕ × Parcel). test m.1.frame) taken

module _ (test : Frame → Bool) where
  abbrev count : List Parcel → ℕ
  count xs = count_by (λ (x : Parcel). test x.frame) xs

  step_counted : (stamp : ℕ) (step : Step) (before xs : List Parcel) (frames : List Frame) → Adds stamp step before xs → count_by test frames ≡ count before → count_by test (arrived_by step ++ frames) ≡ count xs
  step_counted stamp (Ordered item) before xs frames a same = same ∙ ap count (sym a)
  step_counted stamp (Sent to slot) before xs frames a same = same ∙ ap count (sym a)
  step_counted stamp (Acknowledged to slot) before xs frames a same = same ∙ ap count (sym a)
  step_counted stamp (Arrived frame) before xs frames a same =
      let f : Parcel → ℕ = λ x. cond (test x.frame) 1 0 in
      let g : Frame → ℕ = λ y. cond (test y) 1 0 in
      omega (arith, same, sum_by-cons g frame frames, ap count a.1, sum_by_push f before a.0, ap g a.2)
  step_counted stamp Stopped before xs frames a same = same ∙ ap count (sym a)

  arrivals_counted : (trail : Trail) (xs : List Parcel) → AreArrivals trail xs → count_by test (arrivals_in trail) ≡ count xs
  unfolding arrivals_in AreArrivals
  arrivals_counted [] xs a = ap count (sym a)
  arrivals_counted (mark ∷ trail) xs a = step_counted mark.stamp mark.step a.0 xs (arrivals_in trail) a.2 (arrivals_counted trail a.0 a.1)

  for_counted : (p : ℕ) (taken : List (ℕ × Parcel)) → count (parcels_for p taken) ≤ count_by (λ (m : ℕ × Parcel). test m.1.frame) taken
  for_counted p [] = omega arith
  for_counted p (m ∷ ms) =
      let f : Parcel → ℕ = λ x. cond (test x.frame) 1 0 in
      let rest = for_counted p ms in
      let all = sum_by-cons (λ (k : ℕ × Parcel). cond (test k.1.frame) 1 0) m ms in
      by_test (m.1.frame.to == p) (sum_by-cons f m.1 (parcels_for p ms)) rest all
    where
      by_test : (b : Bool) → count (m.1 ∷ parcels_for p ms) ≡ cond (test m.1.frame) 1 0 + count (parcels_for p ms) → count (parcels_for p ms) ≤ count_by (λ (k : ℕ × Parcel). test k.1.frame) ms
          → count_by (λ (k : ℕ × Parcel). test k.1.frame) (m ∷ ms) ≡ cond (test m.1.frame) 1 0 + count_by (λ (k : ℕ × Parcel). test k.1.frame) ms
          → count (cond b (m.1 ∷ parcels_for p ms) (parcels_for p ms)) ≤ count_by (λ (k : ℕ × Parcel). test k.1.frame) (m ∷ ms)
      by_test true one rest all = omega (arith, one, rest, all)
      by_test false one rest all = omega (arith, rest, all)

  -- of the frames that pass a test no more arrived than were in the parcels that were taken
  pub no_more_arrived : (p : ℕ) (taken : List (ℕ × Parcel)) (waiting : Option Parcel) (trail : Trail) (xs : List Parcel) → AreArrivals trail xs → parcels_for p taken ≡ xs ++ option_to_list waiting
      → count_by test (arrivals_in trail) ≤ count_by (λ (m : ℕ × Parcel). test m.1.frame) taken
  no_more_arrived p taken waiting trail xs a is =
      omega (arith, arrivals_counted trail xs a, ap count is, sum_by-append (λ (x : Parcel). cond (test x.frame) 1 0) xs (option_to_list waiting), for_counted p taken)
