-- Laws of the items of one putter.
use Rattle.std.proofs.Common.{◌≡◌, ◌≢◌, ℕ, zero, suc, ◌<◌, ◌≤◌, true, false, cond, eqb, List, [], ◌∷◌, ◌++◌, length, map, refl, sym, ◌∙◌, ap, eq-eqb, ne_eqb, arith}
use Rattle.std.proofs.lemmas.List.{map-append}
use Rattle.cast_box.specs.Lists.{of, put_by, IsFair, StartsWith, AreBelow}

module _ {T : Type 0} where
  pub of-append : (a : ℕ) (xs ys : List (ℕ × T)) → of a (xs ++ ys) ≡ of a xs ++ of a ys
  of-append a [] ys = refl
  of-append a (m ∷ ms) ys =
      elim (eqb a m.0) as (λ b. cond b (m.1 ∷ of a (ms ++ ys)) (of a (ms ++ ys)) ≡ cond b (m.1 ∷ of a ms) (of a ms) ++ of a ys) [
        | true ↦ ap (λ l. m.1 ∷ l) (of-append a ms ys)
        | false ↦ of-append a ms ys
      ]

  pub of_mine : (m : ℕ × T) (ms : List (ℕ × T)) → of m.0 (m ∷ ms) ≡ m.1 ∷ of m.0 ms
  of_mine m ms = ap (λ b. cond b (m.1 ∷ of m.0 ms) (of m.0 ms)) (eq-eqb m.0 m.0 refl)

  pub of_same : (a : ℕ) (x : T) → of a ((a, x) ∷ []) ≡ x ∷ []
  of_same a x = of_mine (a, x) []

  pub of_other : (a b : ℕ) (x : T) → a ≢ b → of a ((b, x) ∷ []) ≡ []
  of_other a b x n = ap (λ t. cond t (x ∷ []) []) (ne_eqb a b n)

  pub put_by_past : (lists : List (List T)) (a : ℕ) → length lists ≤ a → put_by lists a ≡ []
  put_by_past [] a h = refl
  put_by_past (l ∷ ls) zero h = absurd (omega arith)
  put_by_past (l ∷ ls) (suc a) h = put_by_past ls a (omega arith)

  -- where all items are of putter 0, they are its items
  pub sole_items : (ms : List (ℕ × T)) → ((a : ℕ) → 1 ≤ a → of a ms ≡ []) → map (λ m. m.1) ms ≡ of 0 ms
  sole_items [] none = refl
  sole_items ((zero, x) ∷ ms) none =
      ap (λ l. x ∷ l) (sole_items ms (λ a h. let ne : a ≢ zero = omega arith in sym (ap (λ b. cond b (x ∷ of a ms) (of a ms)) (ne_eqb a zero ne)) ∙ none a h))
  sole_items ((suc b, x) ∷ ms) none = let no : x ∷ of (suc b) ms ≡ [] = sym (of_mine (suc b, x) ms) ∙ none (suc b) (omega arith) in absurd cc

  -- a front of the items of a box with one putter begins what was put
  pub fair_front : (put : List T) (taken left : List (ℕ × T)) → IsFair (put ∷ []) taken left → StartsWith put (map (λ m. m.1) taken)
  fair_front put taken left fair =
      let all = sole_items (taken ++ left) (λ a h. fair a ∙ put_by_past (put ∷ []) a h) in
      (map (λ m. m.1) left, sym (fair 0) ∙ sym all ∙ map-append (λ m. m.1) taken left)

  -- each item stands somewhere in the list, so what holds of all that stand there holds of each
  pub all_below : (n : ℕ) (items : List (ℕ × T)) → ((before : List (ℕ × T)) (m : ℕ × T) (after : List (ℕ × T)) → items ≡ before ++ m ∷ after → m.0 < n) → AreBelow n items
  all_below n [] each = tt
  all_below n (m ∷ ms) each = (each [] m ms refl, all_below n ms (λ before x after e. each (m ∷ before) x after (ap (λ l. m ∷ l) e)))

  -- where all items are of putter 0, it has as many of them as there are
  pub own_length : (items : List (ℕ × T)) → AreBelow 1 items → length (of 0 items) ≡ length items
  own_length [] all = refl
  own_length ((zero, x) ∷ ms) all = ap suc (own_length ms all.1)
  own_length ((suc b, x) ∷ ms) all = absurd (let h = all.0 in omega arith)
