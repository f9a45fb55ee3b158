-- Places of lists.
use Rattle.std.proofs.Common.{◌≡◌, ℕ, zero, suc, ◌<◌, refl, sym, ◌∙◌, ap, cond, List, [], ◌∷◌, ◌++◌, length, inl, inr}
use Rattle.std.specs.Prelude.{◌==◌, replicate, slice_index_or, slice_set}
use Rattle.std.proofs.Math.ListN.{length-set}
use Rattle.std.proofs.lemmas.List.{get_or-set_same, get_or-set_other, length-replicate}
use Rattle.std.proofs.lemmas.Bool.{eq-eqb, ne_eqb, cases_eq}

module _ {A : Type 0} where
  pub length-slice_set : (xs : List A) (i : ℕ) (x : A) → length (slice_set xs i x) ≡ length xs
  length-slice_set = length-set

  pub at_set : (xs : List A) (i j : ℕ) (x d : A) → i < length xs → slice_index_or (slice_set xs i x) j d ≡ cond (j == i) x (slice_index_or xs j d)
  at_set xs i j x d h = elim (cases_eq j i) [
    | inl e ↦ ap (λ k. slice_index_or (slice_set xs i x) k d) e ∙ get_or-set_same xs i x d h ∙ sym (ap (λ b. cond b x (slice_index_or xs j d)) (eq-eqb j i e))
    | inr e ↦ get_or-set_other xs i j x d e ∙ sym (ap (λ b. cond b x (slice_index_or xs j d)) (ne_eqb j i e))
  ]

  pub at_replicate : (n i : ℕ) (d : A) → slice_index_or (replicate n d) i d ≡ d
  at_replicate zero i d = refl
  at_replicate (suc n) zero d = refl
  at_replicate (suc n) (suc i) d = at_replicate n i d

  pub length-replicated : (n : ℕ) (d : A) → length (replicate n d) ≡ n
  length-replicated = length-replicate

  -- places at the end that hold the default change no look-up
  pub at_padded : (xs : List A) (n i : ℕ) (d : A) → slice_index_or (xs ++ replicate n d) i d ≡ slice_index_or xs i d
  at_padded [] n i d = at_replicate n i d
  at_padded (x ∷ xs) n zero d = refl
  at_padded (x ∷ xs) n (suc i) d = at_padded xs n i d
