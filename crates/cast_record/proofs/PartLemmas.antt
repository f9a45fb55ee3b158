-- The first part, by the place of its separator.
use Rattle.std.proofs.Common.{◌≡◌, ℕ, ◌+◌, ◌<◌, ◌≤◌, Bool, true, false, List, [], ◌∷◌, ◌++◌, length, get_or, cond, take, drop, Some, None, refl, sym, ap, ◌∙◌, arith, position, add-one, drop-cons}
use Rattle.std.specs.List.{slice_split, onto_first, All, position_or_len}
use Rattle.std.proofs.lemmas.List.Sums.{fails_before_first}
use Rattle.std.proofs.lemmas.List.{take-append-drop}
use Rattle.std.proofs.lemmas.List.Quantifiers.{position-Some}
use Rattle.std.proofs.lemmas.List.Splits.{slice_split_at, slice_split_none}
use Rattle.std.proofs.lemmas.Bool.Decides.{nat_tests}
use Rattle.std.proofs.lemmas.Grind.{common_steps}
use Rattle.cast_record.specs.Reading.{one_of}

-- what stands before the place does not pass
pub none_before : (p : ℕ → Bool) (xs : List ℕ) (i : ℕ) → position p xs ≡ Some i → All (λ x. p x ≡ false) (take i xs)
none_before p xs i e = λ k d within.
    let found = position-Some p xs i d e in
    let below : k < i = grind (arith, common_steps) in
    let same : get_or (take i xs) k d ≡ get_or xs k d = grind (arith, common_steps) in
    rw same (found.2 k below)

-- the bytes are those before the place, the separator, and those after it
pub at_place : (p : ℕ → Bool) (xs : List ℕ) (i : ℕ) → position p xs ≡ Some i → xs ≡ take i xs ++ get_or xs i 0 ∷ drop (i + 1) xs
at_place p xs i e =
    let within : i < length xs = (position-Some p xs i 0 e).0 in
    sym (take-append-drop i xs) ∙ ap (λ ys. take i xs ++ ys) (drop-cons xs i 0 within ∙ ap (λ n. get_or xs i 0 ∷ drop n xs) (sym (add-one i)))

pub split_found : (p : ℕ → Bool) (xs : List ℕ) (i : ℕ) → position p xs ≡ Some i → slice_split p xs ≡ take i xs ∷ slice_split p (drop (i + 1) xs)
split_found p xs i e =
    ap (slice_split p) (at_place p xs i e) ∙ slice_split_at p (take i xs) (get_or xs i 0) (drop (i + 1) xs) (none_before p xs i e) (position-Some p xs i 0 e).1

-- where there is no place, no byte passes
pub none_passes : (p : ℕ → Bool) (xs : List ℕ) → position p xs ≡ None → All (λ x. p x ≡ false) xs
none_passes p xs e = λ k d within.
    let past : length xs ≤ position_or_len p xs = grind (arith, nat_tests) in
    fails_before_first p xs k d (omega arith)

pub split_missed : (p : ℕ → Bool) (xs : List ℕ) → position p xs ≡ None → slice_split p xs ≡ xs ∷ []
split_missed p xs e = slice_split_none p xs (none_passes p xs e)

-- there is always a first part
abbrev pub HasFirst : List (List ℕ) → Type 0
HasFirst parts = (part : List ℕ) × (others : List (List ℕ)) × (parts ≡ part ∷ others)

onto_has_first : (x : ℕ) (parts : List (List ℕ)) → HasFirst parts → HasFirst (onto_first x parts)
onto_has_first x parts h = (x ∷ h.0, h.1, ap (onto_first x) h.2)

cond_has_first : (b : Bool) (xs ys : List (List ℕ)) → HasFirst xs → HasFirst ys → HasFirst (cond b xs ys)
cond_has_first true xs ys h g = h
cond_has_first false xs ys h g = g

pub has_first : (p : ℕ → Bool) (xs : List ℕ) → HasFirst (slice_split p xs)
has_first p [] = ([], [], refl)
has_first p (x ∷ xs) = cond_has_first (p x) ([] ∷ slice_split p xs) (onto_first x (slice_split p xs)) ([], slice_split p xs, refl) (onto_has_first x (slice_split p xs) (has_first p xs))

pub more_than_one : (part : List ℕ) (p : ℕ → Bool) (xs : List ℕ) → one_of (part ∷ slice_split p xs) ≡ None
more_than_one part p xs = let first = has_first p xs in ap (λ parts. one_of (part ∷ parts)) first.2
