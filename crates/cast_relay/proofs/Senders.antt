-- Sets for the first senders, as a list for all.
use Rattle.std.specs.Prelude.{◌≡◌, ℕ, zero, suc, ◌+◌, ◌-◌, ◌≤◌, ◌<◌, Bool, true, false, not, List, [], ◌∷◌, ◌++◌, length, replicate, slice_index_or, slice_set, refl}
use Rattle.std.specs.Ordering.{nat_cmp}
use Rattle.std.specs.FinSet as set
use Rattle.std.proofs.Common.{sym, ap, ◌∙◌, arith, append_assoc, length-append}
use Rattle.std.proofs.Math.ListN.{length-set}
use Rattle.cast_relay.specs.Pairs.{Pairs, by_sender, numbers_of, with_pair, with_own, holds}

abbrev Numbers : Type 0
Numbers = set.FinSet nat_cmp

-- a relay with these fields, as callers see it
abbrev pub seen : ℕ → ℕ → List Numbers → Pairs
seen me own sets = record { me = me; own = own; numbers = by_sender sets }

none_of : (n s : ℕ) → slice_index_or (replicate n (set.empty {R = nat_cmp})) s set.empty ≡ set.empty
none_of zero s = refl
none_of (suc n) zero = refl
none_of (suc n) (suc s) = none_of n s

index_front : (sets : List Numbers) (n s : ℕ) → slice_index_or (sets ++ replicate n set.empty) s set.empty ≡ slice_index_or sets s set.empty
index_front [] n s = none_of n s
index_front (x ∷ sets) n zero = refl
index_front (x ∷ sets) n (suc s) = index_front sets n s

pub numbers_of-by_sender : (sets : List Numbers) (s : ℕ) → numbers_of (by_sender sets) s ≡ numbers_of sets s
unfolding by_sender
numbers_of-by_sender sets s = index_front sets (256 - length sets) s

set_front : (sets rest : List Numbers) (s : ℕ) (v : Numbers) → s < length sets → slice_set (sets ++ rest) s v ≡ slice_set sets s v ++ rest
set_front [] rest s v l = absurd (omega arith)
set_front (x ∷ sets) rest zero v l = refl
set_front (x ∷ sets) rest (suc s) v l = ap (λ xs. x ∷ xs) (set_front sets rest s v (omega arith))

pub by_sender-set : (sets : List Numbers) (s : ℕ) (v : Numbers) → s < length sets → by_sender (slice_set sets s v) ≡ slice_set (by_sender sets) s v
unfolding by_sender
by_sender-set sets s v l = ap (λ n. slice_set sets s v ++ replicate (256 - n) set.empty) (length-set sets s v) ∙ sym (set_front sets (replicate (256 - length sets) set.empty) s v l)

replicate_suc : (n k : ℕ) → n ≡ suc k → (set.empty {R = nat_cmp}) ∷ replicate k set.empty ≡ replicate n set.empty
replicate_suc n k e = ap (λ m. replicate m (set.empty {R = nat_cmp})) (sym e)

pub by_sender-push : (sets : List Numbers) → length sets < 256 → by_sender (sets ++ set.empty ∷ []) ≡ by_sender sets
unfolding by_sender
by_sender-push sets l =
    let more : length (sets ++ set.empty {R = nat_cmp} ∷ []) ≡ length sets + 1 = length-append sets (set.empty ∷ []) in
    let one : 256 - length sets ≡ suc (256 - length (sets ++ set.empty {R = nat_cmp} ∷ [])) = omega (arith, more, l) in
    append_assoc sets (set.empty ∷ []) (replicate (256 - length (sets ++ set.empty {R = nat_cmp} ∷ [])) set.empty)
    ∙ ap (λ xs. sets ++ xs) (replicate_suc _ _ one)

join : (n k : ℕ) → replicate n (set.empty {R = nat_cmp}) ++ replicate k set.empty ≡ replicate (n + k) set.empty
join zero k = ap (λ m. replicate m (set.empty {R = nat_cmp})) (let e : k ≡ 0 + k = omega arith in e)
join (suc n) k = ap (λ xs. set.empty ∷ xs) (join n k) ∙ replicate_suc (suc n + k) (n + k) (omega arith)

pub length-replicate : (n : ℕ) → length (replicate n (set.empty {R = nat_cmp})) ≡ n
length-replicate zero = refl
length-replicate (suc n) = ap suc (length-replicate n)

pub by_sender-none : (n : ℕ) → n ≤ 256 → by_sender (replicate n set.empty) ≡ replicate 256 set.empty
unfolding by_sender
by_sender-none n l =
    ap (λ m. replicate n set.empty ++ replicate (256 - m) set.empty) (length-replicate n)
    ∙ join n (256 - n)
    ∙ ap (λ m. replicate m (set.empty {R = nat_cmp})) (let e : n + (256 - n) ≡ 256 = omega arith in e)

-- one number more of a sender
added : (sets room : List Numbers) (s place i : ℕ) (numbers : Numbers) → by_sender room ≡ by_sender sets → place ≡ s → place < length room → numbers ≡ set.insert (numbers_of room place) i → by_sender (slice_set room place numbers) ≡ slice_set (by_sender sets) s (set.insert (numbers_of (by_sender sets) s) i)
added sets room s place i numbers same at l e =
    let read : numbers_of room place ≡ numbers_of (by_sender sets) s = ap (numbers_of room) at ∙ sym (numbers_of-by_sender room s) ∙ ap (λ xs. numbers_of xs s) same in
    by_sender-set room place numbers l ∙ (λ k. slice_set (same k) (at k) ((e ∙ ap (λ n. set.insert n i) read) k))

-- one pair more
pub put : (sets room : List Numbers) (held : Pairs) (me own s place i : ℕ) (numbers : Numbers) → seen me own sets ≡ held → by_sender room ≡ by_sender sets → place ≡ s → place < length room → numbers ≡ set.insert (numbers_of room place) i → seen me own (slice_set room place numbers) ≡ with_pair held s i
put sets room held me own s place i numbers is same at l e =
    (λ k. record { me = me; own = own; numbers = added sets room s place i numbers same at l e k }) ∙ ap (λ h. with_pair h s i) is

-- the node's next pair more
pub put_own : (sets : List Numbers) (held : Pairs) (me own place : ℕ) (numbers : Numbers) → seen me own sets ≡ held → place ≡ me → place < length sets → numbers ≡ set.insert (numbers_of sets place) own → seen me (own + 1) (slice_set sets place numbers) ≡ with_own held
put_own sets held me own place numbers is at l e =
    (λ k. record { me = me; own = own + 1; numbers = added sets sets me place own numbers refl at l e k }) ∙ ap with_own is

-- what an arrival is answered: a pair is held where its number is in its sender's place
pub answer : (held : Pairs) (s i : ℕ) (sets room : List Numbers) (me own place : ℕ) (fresh : Bool) → seen me own sets ≡ held → by_sender room ≡ by_sender sets → place ≡ s → fresh ≡ not (set.contains (numbers_of room place) i) → holds held s i ≡ not fresh
answer held s i sets room me own place fresh is same at e =
    sym (ap (λ (h : Pairs). holds h s i) is)
    ∙ ap (λ xs. set.contains (numbers_of xs s) i) (sym same)
    ∙ ap (λ n. set.contains n i) (numbers_of-by_sender room s ∙ ap (numbers_of room) (sym at))
    ∙ twice _
    ∙ ap not (sym e)
  where
    twice : (b : Bool) → b ≡ not (not b)
    twice true = refl
    twice false = refl
