-- A message is given to peers one by one.
use Rattle.std.specs.Prelude.{◌≡◌, ℕ, ◌+◌, ◌≤◌, Bool, true, not, if◌then◌else◌, List, [], ◌∷◌, ◌++◌, length, refl}
use Rattle.std.proofs.Common.{sym, ap, ◌∙◌, arith}
use Rattle.std.proofs.lemmas.List.{get_or_past}
use Rattle.std.specs.Ordering.{nat_cmp}
use Rattle.std.specs.FinSet as set
use Rattle.std.specs.FinSet.{contains-empty}
use Rattle.cast_draw.specs.declared.links.Pair.{Pair}
use Rattle.cast_draw.specs.Gifts.{given_on, goes_on, is_held}

none : (rows : List (List Pair)) → length rows ≡ 0 → rows ≡ []
none [] e = refl
none (x ∷ rows) e = absurd (omega (arith, e))

pub given_none : (me : ℕ) (pair : Pair) (source peer : ℕ) (rows : List (List Pair)) → length rows ≡ 0 → rows ≡ given_on me pair source peer rows
unfolding given_on
given_none me pair source peer rows e = none rows e ∙ sym (ap (given_on me pair source peer) (none rows e))

pub given_next : (me : ℕ) (pair : Pair) (source peer : ℕ) (rows rest more : List (List Pair)) (row given : List Pair) (goes : Bool) → rows ≡ row ∷ rest → given ≡ (if goes then row ++ pair ∷ [] else row) → goes ≡ goes_on me pair source peer → more ≡ given_on me pair source (peer + 1) rest → given ∷ more ≡ given_on me pair source peer rows
unfolding given_on
given_next me pair source peer rows rest more row given goes e g t m =
    (λ i. (g ∙ ap (λ b. if b then row ++ pair ∷ [] else row) t) i ∷ m i) ∙ sym (ap (given_on me pair source peer) e)

-- a sender that has no set
pub not_held : (held : List (set.FinSet nat_cmp)) (pair : Pair) → length held ≤ pair.sender → true ≡ not (is_held held pair)
not_held held pair past = ap not (sym (ap (λ s. set.contains s pair.number) (get_or_past held pair.sender set.empty past) ∙ contains-empty nat_cmp pair.number))
