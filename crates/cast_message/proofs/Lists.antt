-- Laws of lists, beside what the standard library has.
use Rattle.std.proofs.Common.{◌≡◌, ℕ, suc, zero, ◌+◌, ◌<◌, ◌≤◌, Bool, true, false, cond, List, [], ◌∷◌, length, get_or, drop, drop-cons, add-one, ap, sym, ◌∙◌, refl, arith}
use Rattle.std.specs.Prelude.{slice_index, replicate}
use Rattle.std.specs.List.{filter}

pub length-filter_le : {A : Type 0} (p : A → Bool) (xs : List A) → length (filter p xs) ≤ length xs
length-filter_le p [] = omega arith
length-filter_le p (x ∷ xs) = by_test (p x) (length-filter_le p xs)
  where
    by_test : (b : Bool) → length (filter p xs) ≤ length xs → length (cond b (x ∷ filter p xs) (filter p xs)) ≤ suc (length xs)
    by_test true h = omega arith
    by_test false h = omega arith

-- from a place on: what stands there, and the rest
pub drop-next : {A : Type 0} (xs : List A) (i : ℕ) (x : A) → i < length xs → x ≡ get_or xs i x → drop i xs ≡ x ∷ drop (i + 1) xs
drop-next xs i x within is = rw add-one (drop-cons xs i x within ∙ ap (λ y. y ∷ drop (suc i) xs) (sym is))

pub none_counted : (k i : ℕ) → slice_index (replicate k 0) i ≡ 0
none_counted zero i = refl
none_counted (suc k) zero = refl
none_counted (suc k) (suc i) = none_counted k i
