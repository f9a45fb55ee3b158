-- Lists: what stands in a longer one.
use Rattle.std.proofs.Common.{◌≡◌, Bool, true, false, if◌then◌else◌, ℕ, zero, suc, List, [], ◌∷◌, ◌++◌, length, slice_get, Some, ◌⊎◌, inl, inr, ⊎_elim}
use Rattle.std.specs.List.{filter}
use Rattle.cast_model.proofs.Round.{slice_get_last}
use Rattle.cast_node.proofs.Logging.{get_snoc}
use Rattle.cast_journal.specs.Lists.{Has}

module _ {A : Type 0} where
  pub has_left : (xs ys : List A) (x : A) → Has xs x → Has (xs ++ ys) x
  has_left [] ys x h = let e = h.1 in absurd cc
  has_left (y ∷ xs) ys x (zero, e) = (zero, e)
  has_left (y ∷ xs) ys x (suc i, e) = let it = has_left xs ys x (i, e) in (suc it.0, it.1)

  pub has_right : (xs ys : List A) (x : A) → Has ys x → Has (xs ++ ys) x
  has_right [] ys x h = h
  has_right (y ∷ xs) ys x h = let it = has_right xs ys x h in (suc it.0, it.1)

  pub has_last : (xs : List A) (x : A) → Has (xs ++ x ∷ []) x
  has_last xs x = (length xs, slice_get_last xs x)

  pub has_snoc : (xs : List A) (y x : A) → Has (xs ++ y ∷ []) x → Has xs x ⊎ (y ≡ x)
  has_snoc xs y x h = ⊎_elim (λ (t : slice_get xs h.0 ≡ Some x). inl (h.0, t)) (λ (t : (h.0 ≡ length xs) × (y ≡ x)). inr t.1) (get_snoc xs y x h.0 h.1)

  pub has_none : (x : A) → Has [] x → ⊥
  has_none x h = let e = h.1 in cc

  pub has_either : (xs ys : List A) (x : A) → Has (xs ++ ys) x → Has xs x ⊎ Has ys x
  has_either [] ys x h = inr h
  has_either (y ∷ xs) ys x (zero, e) = inl (zero, e)
  has_either (y ∷ xs) ys x (suc i, e) = ⊎_elim (λ (t : Has xs x). inl (suc t.0, t.1)) (λ t. inr t) (has_either xs ys x (i, e))

  pub has_filter : (test : A → Bool) (xs : List A) (x : A) → Has (filter test xs) x → Has xs x
  has_filter test [] x h = h
  has_filter test (y ∷ xs) x h = step (test y) (λ k. has_filter test xs x k) h
    where
      step : (b : Bool) → (Has (filter test xs) x → Has xs x) → Has (if b then y ∷ filter test xs else filter test xs) x → Has (y ∷ xs) x
      step true on (zero, e) = (zero, e)
      step true on (suc i, e) = let it = on (i, e) in (suc it.0, it.1)
      step false on k = let it = on k in (suc it.0, it.1)
