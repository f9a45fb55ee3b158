-- The orders that a walk goes over are exactly those with all messages, and no order is there twice.
use Rattle.std.proofs.Common.{◌≡◌, ◌<◌, ◌≤◌, ◌+◌, inl, inr, ℕ, zero, suc, Bool, true, false, cond, eqb, eq-eqb, List, [], ◌∷◌, ◌++◌, length, get_or, slice_index_or, refl, sym, ap, ◌∙◌, subst, arith, append_assoc}
use Rattle.std.specs.Prelude.{◌↔◌}
use Rattle.std.specs.List.{flat_map, range_with_len, sum, Contains}
use Rattle.std.proofs.lemmas.Bool.{ltb-true}
use Rattle.std.proofs.lemmas.Bool.Decides.{leb_tells, eqb_tells}
use Rattle.std.proofs.lemmas.List.{append-nil, get_or_past, length-append}
use Rattle.std.proofs.lemmas.List.Concat.{flat_map-cons}
use Rattle.std.proofs.lemmas.List.Sums.{sum_by-append, sum_by-cons}
use Rattle.cast_model.proofs.Members.{Member, here, Member-one, Member-uncons, Member-append_left, Member-append_right, Member-when, Member-Contains, Contains-Member, Member-get_or}
use Rattle.cast_model.proofs.Dues.{Once, Once-append, Once-range, Member-flat_in}
use Rattle.cast_model.proofs.AtRest.{Member-range_with_len}
use Rattle.cast.specs.Orders.{orders_from, orders, goes_on, times, IsOrder, AreDifferent}
use Rattle.cast.proofs.Walks.{with_next, taken}

abbrev counted : Bool → ℕ
counted b = cond b 1 0

-- how often s is there with a sender more
times_last : (s t : ℕ) (begun : List ℕ) → times s (begun ++ t ∷ []) ≡ times s begun + cond (eqb t s) 1 0
times_last s t begun = let both = sum_by-append (λ x. cond (eqb x s) 1 0) begun (t ∷ []) in omega (arith, both)

times_own : (s : ℕ) (begun rest : List ℕ) → times s begun < times s (begun ++ s ∷ rest)
times_own s begun rest =
    let both = sum_by-append (λ x. cond (eqb x s) 1 0) begun (s ∷ rest) in
    let one : counted (eqb s s) ≡ 1 = ap counted (eq-eqb s s refl) in
    let first = sum_by-cons (λ x. cond (eqb x s) 1 0) s rest in
    omega (arith, both, first, one)

has_messages : (counts : List ℕ) (s k : ℕ) → k < slice_index_or counts s 0 → s < length counts
has_messages counts s k some = elim (leb_tells (length counts) s) [
  | inl past ↦ (let none = get_or_past counts s 0 past.1 in absurd (omega (arith, none, some)))
  | inr within ↦ within.1
]

Member-flat : {A B : Type 0} (f : A → List B) (x : A) (y : B) (xs : List A) → Member x xs → Member y (f x) → Member y (flat_map f xs)
Member-flat f x y [] at m = elim at [ ]
Member-flat f x y (z ∷ xs) at m = elim (Member-uncons x z xs at) [
  | inl same ↦ subst (Member y) (sym (flat_map-cons f z xs)) (Member-append_left y (f z) (flat_map f xs) (subst (λ w. Member y (f w)) same m))
  | inr later ↦ subst (Member y) (sym (flat_map-cons f z xs)) (Member-append_right y (f z) (flat_map f xs) (Member-flat f x y xs later m))
]

-- an order that goes on from `begun` is there
is_there : (counts begun rest : List ℕ) → ((s : ℕ) → times s (begun ++ rest) ≤ slice_index_or counts s 0) → Member (begun ++ rest) (orders_from counts (length rest) begun)
unfolding orders_from
is_there counts begun [] fits = subst (λ o. Member o (begun ∷ [])) (sym (append-nil begun)) here
is_there counts begun (s ∷ rest) fits =
    let moved : (begun ++ s ∷ []) ++ rest ≡ begun ++ s ∷ rest = append_assoc begun (s ∷ []) rest in
    let later = is_there counts (begun ++ s ∷ []) rest (λ t. subst (λ o. times t o ≤ slice_index_or counts t 0) (sym moved) (fits t)) in
    let own = times_own s begun rest in
    let most = fits s in
    let some : times s begun < slice_index_or counts s 0 = omega (arith, own, most) in
    let within = has_messages counts s (times s begun) some in
    Member-flat (with_next counts (length rest) begun) s (begun ++ s ∷ rest) (range_with_len 0 (length counts))
    (Member-range_with_len (length counts) 0 s (omega arith) (omega (arith, within)))
    (subst (Member (begun ++ s ∷ rest)) (taken counts begun (length rest) s some) (subst (λ o. Member o (orders_from counts (length rest) (begun ++ s ∷ []))) moved later))

-- with a sender more that has messages left, no sender is there too often
fits_last : (counts begun : List ℕ) (s : ℕ) → goes_on counts begun s ≡ true → ((t : ℕ) → times t begun ≤ slice_index_or counts t 0) → (t : ℕ) → times t (begun ++ s ∷ []) ≤ slice_index_or counts t 0
fits_last counts begun s left fits t =
    let last = times_last t s begun in
    let before = fits t in
    elim (eqb_tells s t) [
      | inl e ↦ (
          let one : counted (eqb s t) ≡ 1 = ap counted e.0 in
          let some : times t begun < slice_index_or counts t 0 = subst (λ u. times u begun < slice_index_or counts u 0) e.1 (ltb-true (times s begun) (slice_index_or counts s 0) left) in
          omega (arith, last, one, some))
      | inr e ↦ (
          let none : counted (eqb s t) ≡ 0 = ap counted e.0 in
          omega (arith, last, none, before))
    ]

is_order : (counts : List ℕ) (steps : ℕ) (begun order : List ℕ) → Member order (orders_from counts steps begun) → ((s : ℕ) → times s begun ≤ slice_index_or counts s 0)
    → (length order ≡ length begun + steps) × ((s : ℕ) → times s order ≤ slice_index_or counts s 0)
unfolding orders_from
is_order counts zero begun order m fits =
    let same = Member-one order begun m in
    let long = ap length same in
    (omega (arith, long), λ s. subst (λ o. times s o ≤ slice_index_or counts s 0) (sym same) (fits s))
is_order counts (suc n) begun order m fits =
    let at = Member-flat_in (with_next counts n begun) order (range_with_len 0 (length counts)) m in
    let next = Member-when (goes_on counts begun at.0) order (orders_from counts n (begun ++ at.0 ∷ [])) at.2 in
    let later = is_order counts n (begun ++ at.0 ∷ []) order next.1 (fits_last counts begun at.0 next.0 fits) in
    let longer = length-append begun (at.0 ∷ []) in
    (omega (arith, later.0, longer), later.1)

begins : (counts : List ℕ) (steps : ℕ) (begun order : List ℕ) → Member order (orders_from counts steps begun) → (rest : List ℕ) × (order ≡ begun ++ rest)
unfolding orders_from
begins counts zero begun order m = ([], Member-one order begun m ∙ sym (append-nil begun))
begins counts (suc n) begun order m =
    let at = Member-flat_in (with_next counts n begun) order (range_with_len 0 (length counts)) m in
    let next = Member-when (goes_on counts begun at.0) order (orders_from counts n (begun ++ at.0 ∷ [])) at.2 in
    let later = begins counts n (begun ++ at.0 ∷ []) order next.1 in
    (at.0 ∷ later.0, later.1 ∙ append_assoc begun (at.0 ∷ []) later.0)

at_seam : (begun : List ℕ) (s : ℕ) (rest : List ℕ) → get_or (begun ++ s ∷ rest) (length begun) 0 ≡ s
at_seam [] s rest = refl
at_seam (x ∷ xs) s rest = at_seam xs s rest

-- which sender is next in an order tells which of these lists it is from
next_is : (counts : List ℕ) (n : ℕ) (begun : List ℕ) (s : ℕ) (order : List ℕ) → Member order (with_next counts n begun s) → get_or order (length begun) 0 ≡ s
next_is counts n begun s order m =
    let next = Member-when (goes_on counts begun s) order (orders_from counts n (begun ++ s ∷ [])) m in
    let later = begins counts n (begun ++ s ∷ []) order next.1 in
    ap (λ o. get_or o (length begun) 0) (later.1 ∙ append_assoc begun (s ∷ []) later.0) ∙ at_seam begun s later.0

Once-flat : {A B : Type 0} (f : A → List B) (key : B → A) → ((x : A) → Once (f x)) → ((x : A) (y : B) → Member y (f x) → key y ≡ x) → (xs : List A) → Once xs → Once (flat_map f xs)
unfolding Once
Once-flat f key each keyed [] a = tt
Once-flat f key each keyed (x ∷ xs) a =
    Once-append (f x) (flat_map f xs) (each x) (Once-flat f key each keyed xs a.1) (λ y m n.
    let r = Member-flat_in f y xs n in
    a.0 (subst (λ z. Member z xs) (sym (keyed r.0 y r.2) ∙ keyed x y m) r.1))

Once-when : (b : Bool) (all : List (List ℕ)) → Once all → Once (cond b all [])
unfolding Once
Once-when true all once = once
Once-when false all once = tt

once_from : (counts : List ℕ) (steps : ℕ) (begun : List ℕ) → Once (orders_from counts steps begun)
unfolding orders_from Once
once_from counts zero begun = ((λ m. elim m [ ]), tt)
once_from counts (suc n) begun =
    Once-flat (with_next counts n begun) (λ o. get_or o (length begun) 0)
    (λ s. Once-when (goes_on counts begun s) (orders_from counts n (begun ++ s ∷ [])) (once_from counts n (begun ++ s ∷ [])))
    (next_is counts n begun) (range_with_len 0 (length counts)) (Once-range (length counts) 0)

apart : (all : List (List ℕ)) → Once all → AreDifferent all
unfolding Once
apart [] once i j less within e = absurd (omega (arith, within))
apart (x ∷ xs) once i zero less within e = absurd (omega (arith, less))
apart (x ∷ xs) once zero (suc j) less within e = once.0 (subst (λ o. Member o xs) (sym e) (Member-get_or xs j [] (omega (arith, within))))
apart (x ∷ xs) once (suc i) (suc j) less within e = apart xs once.1 i j (omega (arith, less)) (omega (arith, within)) e

pub exactly_orders : (counts order : List ℕ) → Contains (orders counts) order ↔ IsOrder counts order
exactly_orders counts order = (
  λ at. (
      let is = is_order counts (sum counts) [] order (Contains-Member order (orders counts) at) (λ s. let none : times s [] ≡ 0 = refl in omega (arith, none)) in
      (omega (arith, is.0), is.1)),
  λ is. Member-Contains order (orders counts) (subst (λ n. Member order (orders_from counts n [])) is.0 (is_there counts [] order is.1)),
)

pub all_different : (counts : List ℕ) → AreDifferent (orders counts)
all_different counts = apart (orders counts) (once_from counts (sum counts) [])
