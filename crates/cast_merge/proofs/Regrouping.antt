-- How lists are grouped where they are merged by key makes no difference.
use Rattle.std.proofs.Common.{◌≡◌, ◌⊎◌, ℕ, ◌<◌, ◌≤◌, refl, sym, ◌∙◌, ap, List, [], ◌∷◌, ◌++◌, inl, inr, arith}
use Rattle.std.proofs.lemmas.Bool.{cases_lt}
use Rattle.cast_log.specs.declared.entry.Entry.{Entry}
use Rattle.cast_merge.specs.ByStamp.{before, from, merge, stamp_of, logged_steps, merged_logs}
use Rattle.cast_merge.proofs.ByKey.{before-more, from-more, before-none, from-none}

module _ {X : Type 0} (key : X → ℕ) where
  -- nothing to merge with
  pub merge-nil : (xs : List X) → merge key xs [] ≡ xs
  unfolding merge before from
  merge-nil [] = refl
  merge-nil (x ∷ xs) = ap (λ all. x ∷ all) (merge-nil xs)

  -- the second list's first goes first
  pub second_first : (x y : X) (xs ys : List X) → key y < key x → merge key (x ∷ xs) (y ∷ ys) ≡ y ∷ merge key (x ∷ xs) ys
  unfolding merge
  second_first x y xs ys l = (λ k. before-more key (key x) y ys l k ++ x ∷ merge key xs (from-more key (key x) y ys l k))

  -- the first list's does
  pub first_first : (x y : X) (xs ys : List X) → key x ≤ key y → merge key (x ∷ xs) (y ∷ ys) ≡ x ∷ merge key xs (y ∷ ys)
  unfolding merge
  first_first x y xs ys l = (λ k. before-none key (key x) y ys l k ++ x ∷ merge key xs (from-none key (key x) y ys l k))

  -- it does where the second list begins so
  first_before : (x h : X) (xs t ys : List X) → ys ≡ h ∷ t → key x ≤ key h → merge key (x ∷ xs) ys ≡ x ∷ merge key xs ys
  first_before x h xs t ys begins l = ap (merge key (x ∷ xs)) begins ∙ first_first x h xs t l ∙ ap (λ all. x ∷ merge key xs all) (sym begins)

  -- of three lists, where it holds of the third with a shorter first or second list
  of_third : (x y : X) (xs ys : List X) → ((zs : List X) → merge key (merge key xs (y ∷ ys)) zs ≡ merge key xs (merge key (y ∷ ys) zs))
      → ((zs : List X) → merge key (merge key (x ∷ xs) ys) zs ≡ merge key (x ∷ xs) (merge key ys zs)) → (zs : List X) → merge key (merge key (x ∷ xs) (y ∷ ys)) zs ≡ merge key (x ∷ xs) (merge key (y ∷ ys) zs)
  of_third x y xs ys over_first over_second [] = merge-nil (merge key (x ∷ xs) (y ∷ ys)) ∙ ap (merge key (x ∷ xs)) (sym (merge-nil (y ∷ ys)))
  of_third x y xs ys over_first over_second (z ∷ zs) = by_two (cases_lt (key y) (key x)) (of_third x y xs ys over_first over_second zs)
    where
      third_goes : key z < key x → key z < key y → (all : List X) (w : X) → merge key (x ∷ xs) (y ∷ ys) ≡ w ∷ all → key z < key w → merge key (merge key (x ∷ xs) (y ∷ ys)) zs ≡ merge key (x ∷ xs) (merge key (y ∷ ys) zs)
          → merge key (merge key (x ∷ xs) (y ∷ ys)) (z ∷ zs) ≡ merge key (x ∷ xs) (merge key (y ∷ ys) (z ∷ zs))
      third_goes l m all w is n ih =
          ap (λ two. merge key two (z ∷ zs)) is
          ∙ second_first w z all zs n
          ∙ ap (λ two. z ∷ merge key two zs) (sym is)
          ∙ ap (λ more. z ∷ more) ih
          ∙ sym (second_first x z xs (merge key (y ∷ ys) zs) l)
          ∙ ap (merge key (x ∷ xs)) (sym (second_first y z ys zs m))

      by_two : (key y < key x) ⊎ (key x ≤ key y) → merge key (merge key (x ∷ xs) (y ∷ ys)) zs ≡ merge key (x ∷ xs) (merge key (y ∷ ys) zs) → merge key (merge key (x ∷ xs) (y ∷ ys)) (z ∷ zs) ≡ merge key (x ∷ xs) (merge key (y ∷ ys) (z ∷ zs))
      by_two (inl l) ih = elim (cases_lt (key z) (key y)) [
        | inl m ↦ third_goes (omega (arith, l, m)) m (merge key (x ∷ xs) ys) y (second_first x y xs ys l) m ih
        | inr m ↦
            ap (λ two. merge key two (z ∷ zs)) (second_first x y xs ys l)
            ∙ first_first y z (merge key (x ∷ xs) ys) zs m
            ∙ ap (λ more. y ∷ more) (over_second (z ∷ zs))
            ∙ sym (second_first x y xs (merge key ys (z ∷ zs)) l)
            ∙ ap (merge key (x ∷ xs)) (sym (first_first y z ys zs m))
      ]
      by_two (inr l) ih = elim (cases_lt (key z) (key x)) [
        | inl m ↦ third_goes m (omega (arith, l, m)) (merge key xs (y ∷ ys)) x (first_first x y xs ys l) m ih
        | inr m ↦
            ap (λ two. merge key two (z ∷ zs)) (first_first x y xs ys l)
            ∙ first_first x z (merge key xs (y ∷ ys)) zs m
            ∙ ap (λ more. x ∷ more) (over_first (z ∷ zs))
            ∙ (elim (cases_lt (key z) (key y)) [
              | inl n ↦ sym (first_before x z xs (merge key (y ∷ ys) zs) (merge key (y ∷ ys) (z ∷ zs)) (second_first y z ys zs n) m)
              | inr n ↦ sym (first_before x y xs (merge key ys (z ∷ zs)) (merge key (y ∷ ys) (z ∷ zs)) (first_first y z ys zs n) l)
            ])
      ]

  of_second : (x : X) (xs : List X) → ((ys zs : List X) → merge key (merge key xs ys) zs ≡ merge key xs (merge key ys zs)) → (ys zs : List X) → merge key (merge key (x ∷ xs) ys) zs ≡ merge key (x ∷ xs) (merge key ys zs)
  unfolding merge
  of_second x xs over_first [] zs = ap (λ all. merge key all zs) (merge-nil (x ∷ xs))
  of_second x xs over_first (y ∷ ys) zs = of_third x y xs ys (over_first (y ∷ ys)) (of_second x xs over_first ys) zs

  pub merge-assoc : (xs ys zs : List X) → merge key (merge key xs ys) zs ≡ merge key xs (merge key ys zs)
  unfolding merge
  merge-assoc [] ys zs = refl
  merge-assoc (x ∷ xs) ys zs = of_second x xs (merge-assoc xs) ys zs

-- the steps of all logs are those of the first ones merged with those of the others
pub merged_halves : (xs ys : List (List Entry)) → merged_logs (xs ++ ys) ≡ merge stamp_of (merged_logs xs) (merged_logs ys)
unfolding merged_logs merge
merged_halves [] ys = refl
merged_halves (log ∷ xs) ys = ap (merge stamp_of (logged_steps log)) (merged_halves xs ys) ∙ sym (merge-assoc stamp_of (logged_steps log) (merged_logs xs) (merged_logs ys))

pub merged_one : (log : List Entry) → merged_logs (log ∷ []) ≡ logged_steps log
unfolding merged_logs
merged_one log = merge-nil stamp_of (logged_steps log)
