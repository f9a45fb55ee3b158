-- Lists: first elements, elements that were read, and those that pass a test.
use Rattle.std.proofs.Common.{◌≡◌, ◌≢◌, ◌<◌, Bool, true, false, if◌then◌else◌, ℕ, zero, suc, List, [], ◌∷◌, ◌++◌, length, take, slice_get, get_or, Some, refl, sym, ap, ◌∙◌}
use Rattle.std.specs.List.{filter}
use Rattle.std.proofs.lemmas.Option.{slice_get_read}

-- the first elements, and the next one
pub take_next : {A : Type 0} (xs : List A) (n : ℕ) (x : A) → slice_get xs n ≡ Some x → take (suc n) xs ≡ take n xs ++ x ∷ []
take_next [] n x e = absurd cc
take_next (y ∷ ys) zero x e = let h : y ≡ x = cc in ap (λ z. z ∷ []) h
take_next (y ∷ ys) (suc n) x e = ap (λ l. y ∷ l) (take_next ys n x e)

-- an element that was read where there is one
pub read_at : {A : Type 0} (xs : List A) (n : ℕ) (x : A) → n < length xs → x ≡ get_or xs n x → slice_get xs n ≡ Some x
read_at xs n x h e = slice_get_read xs (length xs) n x refl h e

-- an element and those behind it, where it passes a test and where it fails it
module _ {A : Type 0} where
  pub picked : (passes : Bool) (x : A) (xs : List A) → passes ≡ true → (if passes then x ∷ xs else xs) ≡ x ∷ xs
  picked true x xs e = refl
  picked false x xs e = absurd cc

  pub left_out : (passes : Bool) (x : A) (xs : List A) → passes ≡ false → (if passes then x ∷ xs else xs) ≡ xs
  left_out true x xs e = absurd cc
  left_out false x xs e = refl

  -- where one passes some do
  pub some_pass : (test : A → Bool) (n : ℕ) (xs : List A) (x : A) → slice_get xs n ≡ Some x → test x ≡ true → filter test xs ≢ []
  some_pass test n [] x at passes none = absurd cc
  some_pass test zero (y ∷ ys) x at passes none =
      let is : y ≡ x = cc in
      let more : y ∷ filter test ys ≡ [] = sym (picked (test y) y (filter test ys) (ap test is ∙ passes)) ∙ none in
      absurd cc
  some_pass test (suc n) (y ∷ ys) x at passes none = behind (test y) (some_pass test n ys x at passes) none
    where
      behind : (b : Bool) → filter test ys ≢ [] → (if b then y ∷ filter test ys else filter test ys) ≡ [] → ⊥
      behind true some e = absurd cc
      behind false some e = some e
