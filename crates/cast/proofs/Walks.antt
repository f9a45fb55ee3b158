-- How a walk goes over all orders: what the visitor has seen is a front of them, and in the end all.
use Rattle.std.proofs.Common.{◌≡◌, ◌<◌, ◌≤◌, ◌+◌, ◌-◌, inl, inr, ℕ, zero, suc, Bool, true, false, cond, List, [], ◌∷◌, ◌++◌, length, take, slice_index_or, refl, sym, ap, ◌∙◌, subst, arith}
use Rattle.std.specs.List.{flat_map, range_with_len}
use Rattle.std.proofs.lemmas.List.{flat_map_more, append-nil}
use Rattle.std.proofs.Common.{append_assoc}
use Rattle.std.proofs.Math.Seq.{take-append_seam}
use Rattle.std.proofs.lemmas.Bool.{lt-ltb, le-ltb}
use Rattle.cast.specs.Orders.{Visits, orders_from, goes_on, times}

pub back_again : (begun : List ℕ) (s : ℕ) (longer back : List ℕ) (depth : ℕ) → longer ≡ begun ++ s ∷ [] → depth ≡ length begun → back ≡ take depth longer → back ≡ begun
back_again begun s longer back depth more deep cut = cut ∙ (λ i. take (deep i) (more i)) ∙ take-append_seam begun (s ∷ [])

-- the orders of `steps` more senders of which s is the first
abbrev pub with_next : List ℕ → ℕ → List ℕ → ℕ → List (List ℕ)
with_next counts steps begun s = cond (goes_on counts begun s) (orders_from counts steps (begun ++ s ∷ [])) []

pub last_step : (counts begun : List ℕ) (steps : ℕ) → steps ≡ 0 → orders_from counts steps begun ≡ begun ∷ []
unfolding orders_from
last_step counts begun zero e = refl
last_step counts begun (suc n) e = absurd (omega (arith, e))

pub more_steps : (counts begun : List ℕ) (steps : ℕ) → 0 < steps → orders_from counts steps begun ≡ flat_map (with_next counts (steps - 1) begun) (range_with_len 0 (length counts))
unfolding orders_from
more_steps counts begun zero e = absurd (omega (arith, e))
more_steps counts begun (suc n) e =
    let same : n ≡ suc n - 1 = omega arith in
    ap (λ k. flat_map (with_next counts k begun) (range_with_len 0 (length counts))) same

range_more : (a n : ℕ) → range_with_len a n ++ (a + n) ∷ [] ≡ range_with_len a (suc n)
range_more a zero = ap (λ k. k ∷ []) (omega arith)
range_more a (suc n) = ap (λ ks. a ∷ ks) (ap (λ k. range_with_len (a + 1) n ++ k ∷ []) (omega arith) ∙ range_more (a + 1) n)

pub range_to : (s : ℕ) → range_with_len 0 s ++ s ∷ [] ≡ range_with_len 0 (s + 1)
range_to s =
    let same : s ≡ 0 + s = omega arith in
    let next : suc s ≡ s + 1 = omega arith in
    ap (λ k. range_with_len 0 s ++ k ∷ []) same ∙ range_more 0 s ∙ ap (range_with_len 0) next

-- one sender more
next_sender : (f : ℕ → List (List ℕ)) (s : ℕ) → flat_map f (range_with_len 0 s) ++ f s ≡ flat_map f (range_with_len 0 (s + 1))
next_sender f s = flat_map_more f [] (range_with_len 0 s) s ∙ ap (flat_map f) (range_to s)

-- the orders by the first senders are a front of all
front : (f : ℕ → List (List ℕ)) (k s n : ℕ) → s + k ≡ n → (rest : List (List ℕ)) × (flat_map f (range_with_len 0 s) ++ rest ≡ flat_map f (range_with_len 0 n))
front f zero s n e = ([], append-nil (flat_map f (range_with_len 0 s)) ∙ ap (λ m. flat_map f (range_with_len 0 m)) (omega (arith, e)))
front f (suc k) s n e =
    let later = front f k (s + 1) n (omega (arith, e)) in
    (f s ++ later.0, sym (append_assoc (flat_map f (range_with_len 0 s)) (f s) later.0) ∙ ap (λ os. os ++ later.0) (next_sender f s) ∙ later.1)

pub taken : (counts begun : List ℕ) (steps s : ℕ) → times s begun < slice_index_or counts s 0 → orders_from counts steps (begun ++ s ∷ []) ≡ with_next counts steps begun s
taken counts begun steps s some = sym (ap (λ b. cond b (orders_from counts steps (begun ++ s ∷ [])) []) (lt-ltb (times s begun) (slice_index_or counts s 0) some))

module _ {V : Type 0} (sees : V → List ℕ → V → Bool → Type 0) where
  pub visits_one : (old : V) (order : List ℕ) (new : V) (on : Bool) → sees old order new on → Visits sees old (order ∷ []) new on
  unfolding Visits
  visits_one old order new true saw = inr (new, saw, (refl, refl))
  visits_one old order new false saw = inl (saw, refl)

  visits_more : (old : V) (xs : List (List ℕ)) (between : V) (ys : List (List ℕ)) (new : V) (on : Bool) → Visits sees old xs between true → Visits sees between ys new on → Visits sees old (xs ++ ys) new on
  unfolding Visits
  visits_more old [] between ys new on before after = subst (λ v. Visits sees v ys new on) before.0 after
  visits_more old (x ∷ xs) between ys new on (inl stopped) after = absurd (cc)
  visits_more old (x ∷ xs) between ys new on (inr went) after = inr (went.0, went.1, visits_more went.0 xs between ys new on went.2 after)

  visits_stopped : (old : V) (xs ys : List (List ℕ)) (new : V) → Visits sees old xs new false → Visits sees old (xs ++ ys) new false
  unfolding Visits
  visits_stopped old [] ys new before = absurd (cc)
  visits_stopped old (x ∷ xs) ys new (inl stopped) = inl stopped
  visits_stopped old (x ∷ xs) ys new (inr went) = inr (went.0, went.1, visits_stopped went.0 xs ys new went.2)

  pub visits_none : (old : V) → Visits sees old [] old true
  unfolding Visits
  visits_none old = (refl, refl)

  -- after the orders with one sender next
  sender_done : (f : ℕ → List (List ℕ)) (s : ℕ) (old between new : V) → Visits sees old (flat_map f (range_with_len 0 s)) between true → Visits sees between (f s) new true
      → Visits sees old (flat_map f (range_with_len 0 (s + 1))) new true
  sender_done f s old between new before after = subst (λ os. Visits sees old os new true) (next_sender f s) (visits_more old (flat_map f (range_with_len 0 s)) between (f s) new true before after)

  pub sender_passed : (counts begun : List ℕ) (steps s : ℕ) (old now : V) → slice_index_or counts s 0 ≤ times s begun
      → Visits sees old (flat_map (with_next counts steps begun) (range_with_len 0 s)) now true → Visits sees old (flat_map (with_next counts steps begun) (range_with_len 0 (s + 1))) now true
  sender_passed counts begun steps s old now none before =
      let nothing : with_next counts steps begun s ≡ [] = ap (λ b. cond b (orders_from counts steps (begun ++ s ∷ [])) []) (le-ltb (times s begun) (slice_index_or counts s 0) none) in
      sender_done (with_next counts steps begun) s old now now before (subst (λ os. Visits sees now os now true) (sym nothing) (visits_none now))

  pub sender_seen : (counts begun : List ℕ) (steps s : ℕ) (old between new : V) → times s begun < slice_index_or counts s 0
      → Visits sees old (flat_map (with_next counts steps begun) (range_with_len 0 s)) between true → Visits sees between (orders_from counts steps (begun ++ s ∷ [])) new true
      → Visits sees old (flat_map (with_next counts steps begun) (range_with_len 0 (s + 1))) new true
  sender_seen counts begun steps s old between new some before after =
      sender_done (with_next counts steps begun) s old between new before (subst (λ os. Visits sees between os new true) (taken counts begun steps s some) after)

  pub stops : (counts begun : List ℕ) (steps s : ℕ) (old between new : V) → times s begun < slice_index_or counts s 0 → s < length counts
      → Visits sees old (flat_map (with_next counts steps begun) (range_with_len 0 s)) between true → Visits sees between (orders_from counts steps (begun ++ s ∷ [])) new false
      → Visits sees old (flat_map (with_next counts steps begun) (range_with_len 0 (length counts))) new false
  stops counts begun steps s old between new some within before after =
      let f = with_next counts steps begun in
      let seen = visits_more old (flat_map f (range_with_len 0 s)) between (f s) new false before (subst (λ os. Visits sees between os new false) (taken counts begun steps s some) after) in
      let rest = front f (length counts - (s + 1)) (s + 1) (length counts) (omega (arith, within)) in
      subst (λ os. Visits sees old os new false) (ap (λ os. os ++ rest.0) (next_sender f s) ∙ rest.1)
      (visits_stopped old (flat_map f (range_with_len 0 s) ++ f s) rest.0 new seen)

  pub ends : (counts begun order : List ℕ) (steps : ℕ) (old new : V) (on : Bool) → steps ≡ 0 → order ≡ begun → sees old order new on → Visits sees old (orders_from counts steps begun) new on
  ends counts begun order steps old new on none same saw =
      subst (λ os. Visits sees old os new on) (sym (last_step counts begun steps none))
      (subst (λ o. Visits sees old (o ∷ []) new on) same (visits_one old order new on saw))

  -- what a call says of one sender more
  pub after_call : (counts next order : List ℕ) (steps : ℕ) (old new : V) (on all : Bool) → order ≡ next → on ≡ all → Visits sees old (orders_from counts steps order) new on
      → Visits sees old (orders_from counts steps next) new all
  after_call counts next order steps old new on all same e saw =
      subst (λ b. Visits sees old (orders_from counts steps next) new b) e (subst (λ o. Visits sees old (orders_from counts steps o) new on) same saw)

  pub of_all : (counts begun : List ℕ) (steps : ℕ) (old new : V) (on : Bool) → 0 < steps
      → Visits sees old (flat_map (with_next counts (steps - 1) begun) (range_with_len 0 (length counts))) new on → Visits sees old (orders_from counts steps begun) new on
  of_all counts begun steps old new on some saw = subst (λ os. Visits sees old os new on) (sym (more_steps counts begun steps some)) saw
