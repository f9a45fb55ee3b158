-- Sums do not depend on the order between senders.
use Rattle.std.proofs.Common.{◌≡◌, ◌≤◌, ◌+◌, ℕ, zero, suc, List, [], ◌∷◌, length, Bool, true, false, eq-eqb, refl, sym, ap, ◌∙◌, arith}
use Rattle.std.specs.Prelude.{not}
use Rattle.std.specs.List.{filter, sum_by}
use Rattle.std.proofs.lemmas.List.Filters.{sum_by-filter_both, length-filter_both}
use Rattle.cast_message.specs.declared.message.Message.{Message}
use Rattle.cast_model.specs.Headline.{is_from}
use Rattle.cast_merge.specs.Told.{of_sender}
use Rattle.cast.specs.Sums.{SumsAgree}

swap_step : (p q : Message → Bool) (x : Message) (xs : List Message) (a b : Bool) → p x ≡ a → q x ≡ b
    → filter p (filter q xs) ≡ filter q (filter p xs) → filter p (filter q (x ∷ xs)) ≡ filter q (filter p (x ∷ xs))
swap_step p q x xs true true pa qb rest = simp (pa, qb) (ap (λ r. x ∷ r) rest)
swap_step p q x xs true false pa qb rest = simp (pa, qb) rest
swap_step p q x xs false true pa qb rest = simp (pa, qb) rest
swap_step p q x xs false false pa qb rest = simp (pa, qb) rest

filter_swap : (p q : Message → Bool) (xs : List Message) → filter p (filter q xs) ≡ filter q (filter p xs)
filter_swap p q [] = refl
filter_swap p q (x ∷ xs) = swap_step p q x xs (p x) (q x) refl refl (filter_swap p q xs)

-- the messages that are not of s
others : ℕ → Message → Bool
others s m = not (is_from s m)

own_first : (x : Message) (xs : List Message) → of_sender x.sender (x ∷ xs) ≡ x ∷ of_sender x.sender xs
own_first x xs = let own : is_from x.sender x ≡ true = eq-eqb x.sender x.sender refl in rw own refl

others_fewer : (x : Message) (xs : List Message) (n : ℕ) → length (x ∷ xs) ≤ suc n → length (filter (others x.sender) (x ∷ xs)) ≤ n
unfolding others
others_fewer x xs n few =
    let split = length-filter_both (is_from x.sender) (others x.sender) (λ m. refl) (x ∷ xs) in
    let own = ap length (own_first x xs) in
    omega (arith, split, own)

-- What is the same of each sender has the same sums: the first message's sender is summed apart, and then the others.
sums_same : (n : ℕ) (f : Message → ℕ) (xs ys : List Message) → length xs ≤ n → ((s : ℕ) → of_sender s xs ≡ of_sender s ys) → sum_by f xs ≡ sum_by f ys
unfolding others
sums_same n f [] [] few same = refl
sums_same n f [] (y ∷ ys) few same = let none = same y.sender ∙ own_first y ys in absurd (cc)
sums_same zero f (x ∷ xs) ys few same = absurd (omega arith)
sums_same (suc n) f (x ∷ xs) ys few same =
    let s = x.sender in
    let left = sums_same n f (filter (others s) (x ∷ xs)) (filter (others s) ys) (others_fewer x xs n few)
    (λ t. filter_swap (is_from t) (others s) (x ∷ xs) ∙ ap (filter (others s)) (same t) ∙ filter_swap (others s) (is_from t) ys) in
    sym (sum_by-filter_both (is_from s) (others s) (λ m. refl) f (x ∷ xs))
    ∙ (λ i. sum_by f (same s i) + left i)
    ∙ sum_by-filter_both (is_from s) (others s) (λ m. refl) f ys

pub sums_agree : SumsAgree
sums_agree f xs ys same = sums_same (length xs) f xs ys (omega arith) same
