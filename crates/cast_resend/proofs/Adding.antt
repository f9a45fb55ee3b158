-- A slot that is due again is added in its place.
use Rattle.std.proofs.Common.{◌≡◌, ◌<◌, ℕ, zero, suc, arith, List, ◌∷◌, ◌++◌, take, drop, refl, sym, subst, inl, inr, ⊎_elim, ◌⊎◌}
use Rattle.std.specs.List.{insert}
use Rattle.std.proofs.lemmas.List.{take-append-drop}
use Rattle.cast_journal.specs.Lists.{Has}
use Rattle.cast_journal.proofs.Lists.{has_left, has_right, has_either}
use Rattle.cast_resend.specs.declared.due.Due.{Due}
use Rattle.cast_resend.specs.Dues.{AddsAgain}

module _ (slot : ℕ) (front back : List ℕ) where
  first_there : Has (front ++ slot ∷ back) slot
  first_there = has_right front (slot ∷ back) slot (zero, refl)

  others_there : (other : ℕ) → Has (front ++ back) other → Has (front ++ slot ∷ back) other
  others_there other h = ⊎_elim (λ (t : Has front other). has_left front (slot ∷ back) other t) (λ (t : Has back other). has_right front (slot ∷ back) other (suc t.0, t.1)) (has_either front back other h)

  behind : (other : ℕ) → Has (slot ∷ back) other → (other ≡ slot) ⊎ Has (front ++ back) other
  behind other (zero, e) = inl (let is : slot ≡ other = cc in sym is)
  behind other (suc i, e) = inr (has_right front back other (i, e))

  no_others : (other : ℕ) → Has (front ++ slot ∷ back) other → (other ≡ slot) ⊎ Has (front ++ back) other
  no_others other h = ⊎_elim (λ (t : Has front other). inr (has_left front back other t)) (λ (t : Has (slot ∷ back) other). behind other t) (has_either front (slot ∷ back) other h)

pub adds_at : (slot place : ℕ) (old new : Due) → slot < old.first → new.first ≡ old.first → new.again.items ≡ insert old.again.items place slot → AddsAgain slot old new
adds_at slot place old new low same e =
    let l = old.again.items in
    let whole : take place l ++ drop place l ≡ l = take-append-drop place l in
    let there : (other : ℕ) → (other ≡ slot) ⊎ Has l other → Has (insert l place slot) other =
    λ other. ⊎_elim (λ (t : other ≡ slot). subst (Has (insert l place slot)) (sym t) (first_there slot (take place l) (drop place l)))
    (λ (t : Has l other). others_there slot (take place l) (drop place l) other (subst (λ (m : List ℕ). Has m other) (sym whole) t)) in
    let only : (other : ℕ) → Has (insert l place slot) other → (other ≡ slot) ⊎ Has l other =
    λ other h. subst (λ (m : List ℕ). (other ≡ slot) ⊎ Has m other) whole (no_others slot (take place l) (drop place l) other h) in
    record {
      first = omega arith;
      stay = λ other below h. subst (λ (m : List ℕ). Has m other) (sym e) (there other h);
      below = λ known other h. subst (λ f. other < f) (sym same) (⊎_elim (λ (t : other ≡ slot). subst (λ n. n < old.first) (sym t) low) (λ (t : Has l other). known other t) (only other (subst (λ (m : List ℕ). Has m other) e h)));
    }
