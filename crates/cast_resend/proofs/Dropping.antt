-- Slots that are dropped because they are no longer owed.
use Rattle.std.proofs.Common.{◌≡◌, ℕ, zero, suc, ◌+◌, ◌-◌, ◌≤◌, ◌<◌, false, List, [], ◌∷◌, ◌++◌, length, slice_get, Option, Some, None, refl, sym, ap, ◌∙◌, subst, append_assoc, arith}
use Rattle.std.specs.Prelude.{option_to_list, MatchOption}
use Rattle.std.proofs.lemmas.List.{append-nil, length_push}
use Rattle.cast_box.proofs.Closing.{get_middle}
use Rattle.cast_journal.specs.Lists.{Has}
use Rattle.cast_node.specs.Kept.{Kept}
use Rattle.cast_resend.specs.Dues.{owes, AreNotOwed, EndsNotOwed, Drops}

module _ (kept : Kept) (to : ℕ) where
  has_first : (slot other : ℕ) (xs : List ℕ) → AreNotOwed kept to xs → owes kept to slot ≡ false → Has (slot ∷ xs) other → owes kept to other ≡ false
  has_first slot other xs all e (zero, h) = let is : slot ≡ other = cc in ap (owes kept to) (sym is) ∙ e
  has_first slot other xs all e (suc i, h) = all other (i, h)

  -- the last one, if there is one, is dropped too
  pub drops_last : (old xs ys : List ℕ) (last : Option ℕ) → Drops kept to old xs → EndsNotOwed kept to xs → xs ≡ ys ++ option_to_list last → Drops kept to old ys
  drops_last old xs ys None d e is = subst (Drops kept to old) (is ∙ append-nil ys) d
  drops_last old xs ys (Some slot) d e is =
      let place : length xs - 1 ≡ length ys = let k : length xs ≡ length ys + 1 = ap length is ∙ length_push ys slot in omega arith in
      let at : slice_get xs (length xs - 1) ≡ Some slot = ap (slice_get xs) place ∙ ap (λ l. slice_get l (length ys)) is ∙ get_middle ys slot [] in
      (slot ∷ d.0, d.1 ∙ ap (λ l. l ++ d.0) is ∙ append_assoc ys (slot ∷ []) d.0, λ other h. has_first slot other d.0 d.2 (e slot at) h)

  pub fewer_left : (xs ys : List ℕ) (last : Option ℕ) (i n : ℕ) → xs ≡ ys ++ option_to_list last → (last ≡ None → length xs ≡ 0) → length xs + i ≤ n → i < n → length ys + (i + 1) ≤ n
  fewer_left xs ys None i n is none h l = let k : length xs ≡ length ys = ap length (is ∙ append-nil ys) in let e : length xs ≡ 0 = none refl in omega arith
  fewer_left xs ys (Some slot) i n is none h l = let k : length xs ≡ length ys + 1 = ap length is ∙ length_push ys slot in omega arith

-- if nothing was taken, nothing was there
pub none_taken : (last : Option ℕ) (old new n : ℕ) → MatchOption last ((old ≡ 0) × (new ≡ 0)) (λ _. new + 1 ≡ old) → n ≡ old → last ≡ None → n ≡ 0
none_taken None old new n m is e = is ∙ m.0
none_taken (Some slot) old new n m is e = absurd cc
