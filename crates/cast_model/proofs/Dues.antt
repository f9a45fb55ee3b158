-- What is due: each slot that a live node owes another, once. Nothing is due exactly at rest.
use Rattle.std.proofs.Common.{◌≡◌, ℕ, zero, suc, ◌+◌, ◌<◌, ◌≤◌, refl, sym, ◌∙◌, ap, subst, Bool, true, false, not, cond, List, [], ◌∷◌, ◌++◌, length, map, inl, inr, arith}
use Rattle.std.specs.Prelude.{◌==◌, nat_eq}
use Rattle.std.specs.List.{filter, flat_map, range_with_len, AllByRecursion, IsDistinct}
use Rattle.std.proofs.lemmas.Bool.{eqb-false, ne_eqb, not_from_false}
use Rattle.cast_message.specs.declared.config.Config.{Config}
use Rattle.cast_model.specs.History.{History, is_live, given, acked}
use Rattle.cast_model.specs.Delivery.{nodes_of}
use Rattle.cast_model.specs.Rounds.{owed, Rest, Due, due_between, live_nodes, due}
use Rattle.cast_model.proofs.Members.{Member, here, there, Member-append, Member-uncons, Member-filter, filter-Member}
use Rattle.cast_model.proofs.AtRest.{Member-range_with_len}
use Rattle.cast_model.proofs.RoundSpreads.{slot_due}

module _ {A : Type 0} where
  -- no element stands in the list twice
  unfoldable pub Once : List A → Type 0
  Once [] = Unit {0}
  Once (x ∷ xs) = (Member x xs → ⊥) × Once xs

  pub Once-append : (xs ys : List A) → Once xs → Once ys → ((x : A) → Member x xs → Member x ys → ⊥) → Once (xs ++ ys)
  unfolding Once
  Once-append [] ys a b apart = b
  Once-append (x ∷ xs) ys a b apart = (
    (λ m. elim (Member-append x xs ys m) [ inl old ↦ a.0 old | inr new ↦ apart x here new ]),
    Once-append xs ys a.1 b (λ y m n. apart y (there m) n),
  )

  pub Once-filter : (p : A → Bool) (xs : List A) → Once xs → Once (filter p xs)
  unfolding Once
  Once-filter p [] a = tt
  Once-filter p (x ∷ xs) a = by_test (p x) (Once-filter p xs a.1)
    where
      by_test : (b : Bool) → Once (filter p xs) → Once (cond b (x ∷ filter p xs) (filter p xs))
      by_test true ih = ((λ m. a.0 (Member-filter p x xs m).0), ih)
      by_test false ih = ih

  nothing_in : (x : A) → Member x [] → ⊥
  nothing_in x m = elim m [ ]

  pub none_from_absent : (xs : List A) → ((x : A) → Member x xs → ⊥) → xs ≡ []
  none_from_absent [] absent = refl
  none_from_absent (x ∷ xs) absent = absurd (absent x here)

module _ {A B : Type 0} where
  pub Member-map_in : (f : A → B) (y : B) (xs : List A) → Member y (map f xs) → (x : A) × Member x xs × (y ≡ f x)
  Member-map_in f y [] m = elim m [ ]
  Member-map_in f y (x ∷ xs) m = elim (Member-uncons y (f x) (map f xs) m) [
    | inl same ↦ (x, here, same)
    | inr later ↦ (let r = Member-map_in f y xs later in (r.0, there r.1, r.2))
  ]

  pub Member-flat_in : (f : A → List B) (y : B) (xs : List A) → Member y (flat_map f xs) → (x : A) × Member x xs × Member y (f x)
  Member-flat_in f y [] m = elim m [ ]
  Member-flat_in f y (x ∷ xs) m = elim (Member-append y (f x) (flat_map f xs) m) [
    | inl now ↦ (x, here, now)
    | inr later ↦ (let r = Member-flat_in f y xs later in (r.0, there r.1, r.2))
  ]

  -- one list after another, where each element tells which it is from
  Once-flat : (f : A → List B) (key : B → A) → ((x : A) → Once (f x)) → ((x : A) (y : B) → Member y (f x) → key y ≡ x) → (xs : List A) → Once xs → Once (flat_map f xs)
  unfolding Once
  Once-flat f key each keyed [] a = tt
  Once-flat f key each keyed (x ∷ xs) a =
      Once-append (f x) (flat_map f xs) (each x) (Once-flat f key each keyed xs a.1) (λ y m n.
      let r = Member-flat_in f y xs n in
      a.0 (subst (λ z. Member z xs) (sym (keyed r.0 y r.2) ∙ keyed x y m) r.1))

  Once-map : (f : A → B) (key : B → A) → ((x : A) → key (f x) ≡ x) → (xs : List A) → Once xs → Once (map f xs)
  unfolding Once
  Once-map f key back [] a = tt
  Once-map f key back (x ∷ xs) a = (
    (λ m. let r = Member-map_in f (f x) xs m in a.0 (subst (λ z. Member z xs) (sym (sym (back x) ∙ ap key r.2 ∙ back r.0)) r.1)),
    Once-map f key back xs a.1,
  )

pub range_bounds : (n a k : ℕ) → Member k (range_with_len a n) → (a ≤ k) × (k < a + n)
range_bounds zero a k m = elim m [ ]
range_bounds (suc n) a k m = elim (Member-uncons k a (range_with_len (a + 1) n) m) [
  | inl same ↦ (omega (arith, same), omega (arith, same))
  | inr later ↦ (let h = range_bounds n (a + 1) k later in (omega (arith, h.0), omega (arith, h.1)))
]

pub Once-range : (n a : ℕ) → Once (range_with_len a n)
unfolding Once
Once-range zero a = tt
Once-range (suc n) a = ((λ m. let h = (range_bounds n (a + 1) a m).0 in omega (arith, h)), Once-range n (a + 1))

pub Once-distinct : (xs : List ℕ) → Once xs → IsDistinct nat_eq xs
unfolding Once IsDistinct
Once-distinct [] a = tt
Once-distinct (x ∷ xs) a = (others xs a.0, Once-distinct xs a.1)
  where
    others : (ys : List ℕ) → (Member x ys → ⊥) → AllByRecursion (λ y. nat_eq x y ≡ false) ys
    others [] absent = tt
    others (y ∷ ys) absent = (ne_eqb x y (λ e. absent (subst (λ z. Member z (y ∷ ys)) (sym e) here)), others ys (λ m. absent (there m)))

-- what makes a slot due
pub record DueOk (config : Config) (past : History) (d : Due) : Type 0 where
  pub from_in : d.from < config.nodes
  pub to_in : d.to < config.nodes
  pub from_live : is_live past d.from ≡ true
  pub to_live : is_live past d.to ≡ true
  pub apart : d.from ≡ d.to → ⊥
  pub slot_in : d.slot < length (given past d.from d.to)
  pub open_slot : acked past d.from d.to d.slot ≡ false

abbrev due_at : ℕ → ℕ → ℕ → Due
due_at p q slot = record { from = p; to = q; slot = slot }

not_true : (b : Bool) → not b ≡ true → b ≡ false
not_true true e = absurd (cc)
not_true false e = refl

between_in : (past : History) (p q : ℕ) (d : Due) → Member d (due_between past p q) → (slot : ℕ) × (d ≡ due_at p q slot) × (p ≡ q → ⊥) × Member slot (owed past p q)
unfolding due_between
between_in past p q d m = by_test (p == q) refl m
  where
    by_test : (b : Bool) → (p == q) ≡ b → Member d (cond b [] (map (due_at p q) (owed past p q))) → (slot : ℕ) × (d ≡ due_at p q slot) × (p ≡ q → ⊥) × Member slot (owed past p q)
    by_test true e m = elim m [ ]
    by_test false e m = let r = Member-map_in (due_at p q) d (owed past p q) m in (r.0, r.2, eqb-false p q e, r.1)

live_in : (config : Config) (past : History) (p : ℕ) → Member p (live_nodes config past) → (p < config.nodes) × (is_live past p ≡ true)
unfolding live_nodes
live_in config past p m =
    let r = Member-filter (is_live past) p (nodes_of config) m in
    let h = range_bounds config.nodes 0 p r.0 in
    (omega (arith, h.1), r.1)

owed_in : (past : History) (p q slot : ℕ) → Member slot (owed past p q) → (slot < length (given past p q)) × (acked past p q slot ≡ false)
unfolding owed
owed_in past p q slot m =
    let r = Member-filter (λ k. not (acked past p q k)) slot (range_with_len 0 (length (given past p q))) m in
    let h = range_bounds (length (given past p q)) 0 slot r.0 in
    (omega (arith, h.1), not_true _ r.1)

pub due_ok : (config : Config) (past : History) (d : Due) → Member d (due config past) → DueOk config past d
unfolding due
due_ok config past d m =
    let a = Member-flat_in (λ p. flat_map (λ q. due_between past p q) (live_nodes config past)) d (live_nodes config past) m in
    let b = Member-flat_in (λ q. due_between past a.0 q) d (live_nodes config past) a.2 in
    let c = between_in past a.0 b.0 d b.2 in
    let from = live_in config past a.0 a.1 in
    let to = live_in config past b.0 b.1 in
    let slot = owed_in past a.0 b.0 c.0 c.3 in
    subst (DueOk config past) (sym c.1) (record {
      from_in = from.0;
      to_in = to.0;
      from_live = from.1;
      to_live = to.1;
      apart = c.2;
      slot_in = slot.0;
      open_slot = slot.1;
    })

-- no slot is due twice
pub due_once : (config : Config) (past : History) → Once (due config past)
unfolding due live_nodes owed due_between Once
due_once config past =
    Once-flat (λ p. flat_map (λ q. due_between past p q) (live_nodes config past)) (λ d. d.from)
    (λ p. Once-flat (λ q. due_between past p q) (λ d. d.to) (λ q. between_once p q) (λ q d m. ap (λ e. e.to) (between_in past p q d m).1) (live_nodes config past) once_live)
    (λ p d m. let a = Member-flat_in (λ q. due_between past p q) d (live_nodes config past) m in ap (λ e. e.from) (between_in past p a.0 d a.2).1)
    (live_nodes config past) once_live
  where
    once_live : Once (live_nodes config past)
    once_live = Once-filter (is_live past) (nodes_of config) (Once-range config.nodes 0)

    between_once : (p q : ℕ) → Once (due_between past p q)
    between_once p q = by_test (p == q)
      where
        by_test : (b : Bool) → Once (cond b [] (map (due_at p q) (owed past p q)))
        by_test true = tt
        by_test false = Once-map (due_at p q) (λ d. d.slot) (λ slot. refl) (owed past p q) (Once-filter (λ k. not (acked past p q k)) (range_with_len 0 (length (given past p q))) (Once-range (length (given past p q)) 0))

-- nothing is due exactly at rest
pub Rest-from_none_due : (config : Config) (past : History) → due config past ≡ [] → Rest config past
Rest-from_none_due config past none = record {
  settled = λ p q p_in q_in p_live q_live apart. none_from_absent (owed past p q) (λ slot m.
      let r = owed_in past p q slot m in
      nothing_in (due_at p q slot) (subst (λ ds. Member (due_at p q slot) ds) none (slot_due config past p q p_in q_in p_live q_live apart slot r.0 r.1)));
}

pub none_due-from_Rest : (config : Config) (past : History) → Rest config past → due config past ≡ []
unfolding owed
none_due-from_Rest config past rest = none_from_absent (due config past) (λ d m.
    let ok = due_ok config past d m in
    let none = rest.settled d.from d.to ok.from_in ok.to_in ok.from_live ok.to_live ok.apart in
    nothing_in d.slot (subst (λ slots. Member d.slot slots) none (filter-Member (λ k. not (acked past d.from d.to k)) d.slot (range_with_len 0 (length (given past d.from d.to))) (Member-range_with_len (length (given past d.from d.to)) 0 d.slot (omega arith) (let h = ok.slot_in in omega (arith, h))) (not_from_false _ ok.open_slot))))
