-- The slots from a base on, as a map of what is owed.
use Rattle.std.specs.Prelude.{◌≡◌, ◌≢◌, ℕ, zero, suc, ◌+◌, ◌-◌, ◌≤◌, ◌<◌, nat_lt, nat_eq, true, cond, List, [], ◌∷◌, ◌++◌, length, slice_index_or, slice_set, Option, Some, None, is_some, refl}
use Rattle.std.specs.Ordering.{nat_cmp, eq_by_cmp}
use Rattle.std.specs.Cmp.{nat_cmp_total}
use Rattle.std.specs.FinMap as map
use Rattle.std.specs.FinMap.{find, get-from_entries, get-insert, get-remove, get-empty, len-insert, len-remove, same_map, nat_cmp-IsAntisymmetric}
use Rattle.std.proofs.Common.{inl, inr, sym, ap, ◌∙◌, arith, true≢false, drop}
use Rattle.std.proofs.lemmas.Bool.Decides.{nat_tests, eqb_tells, leb_tells}
use Rattle.cast_message.proofs.Tests.{cmp_other, cmp_same}
use Rattle.cast_link.specs.Links.{owed_from, owed_map, StartsOwed}

module _ {X : Type 0} where
  -- the message owed at a slot
  abbrev pub owed_at : ℕ → List (Option X) → ℕ → Option X
  owed_at base places q = cond (nat_lt q base) None (slice_index_or places (q - base) None)

  first_apart : (base : ℕ) (p : Option X) (places : List (Option X)) (q : ℕ) → q ≢ base → owed_at base (p ∷ places) q ≡ owed_at (base + 1) places q
  first_apart base p places q e = elim (leb_tells (suc q) base) [
    | inl h ↦ grind (arith, nat_tests, h.1)
    | inr h ↦ grind (arith, nat_tests, h.1, ap (λ j. slice_index_or (p ∷ places) j None) (let e2 : q - base ≡ suc (q - (base + 1)) = omega (arith, e, h.1) in e2))
  ]

  first_here : (base : ℕ) (p : Option X) (places : List (Option X)) → owed_at base (p ∷ places) base ≡ p
  first_here base p places = grind (arith, nat_tests, ap (λ j. slice_index_or (p ∷ places) j None) (let e : base - base ≡ 0 = omega arith in e))

  pub none_below : (base : ℕ) (places : List (Option X)) (q : ℕ) → q < base → owed_at base places q ≡ None
  none_below base places q l = grind (arith, nat_tests)

module _ {X : Type 0} where
  find-owed_from : (base : ℕ) (places : List (Option X)) (q : ℕ) → find nat_cmp q (owed_from base places) ≡ owed_at base places q
  find-owed_from base [] q = grind (arith, nat_tests)
  find-owed_from base (None ∷ places) q = elim (eqb_tells q base) [
    | inl e ↦ grind (arith, nat_tests, find-owed_from (base + 1) places q, e.1, none_below (base + 1) places q (omega (arith, e.1)), first_here base None places)
    | inr e ↦ find-owed_from (base + 1) places q ∙ sym (first_apart base None places q e.1)
  ]
  find-owed_from base (Some message ∷ places) q = elim (eqb_tells q base) [
    | inl e ↦ grind (arith, nat_tests, e.1, cmp_same q base e.1, first_here base (Some message) places)
    | inr e ↦ grind (arith, nat_tests, cmp_other q base e.1, find-owed_from (base + 1) places q, first_apart base (Some message) places q e.1)
  ]

  pub get-owed_map : (base : ℕ) (places : List (Option X)) (q : ℕ) → map.get (owed_map base places) q ≡ owed_at base places q
  unfolding owed_map
  get-owed_map base places q = get-from_entries nat_cmp_total (owed_from base places) q ∙ find-owed_from base places q

module _ {X : Type 0} where
  at_end : (places : List (Option X)) (p : Option X) (i : ℕ) → slice_index_or (places ++ p ∷ []) i None ≡ cond (nat_eq i (length places)) p (slice_index_or places i None)
  at_end [] p zero = refl
  at_end [] p (suc i) = grind (arith, nat_tests)
  at_end (x ∷ places) p zero = grind (arith, nat_tests)
  at_end (x ∷ places) p (suc i) = grind (arith, nat_tests, at_end places p i)

  past_end : (places : List (Option X)) (i : ℕ) → length places ≤ i → slice_index_or places i None ≡ None
  past_end [] i l = refl
  past_end (x ∷ places) zero l = absurd (omega arith)
  past_end (x ∷ places) (suc i) l = past_end places i (omega arith)

  pub none_past : (base : ℕ) (places : List (Option X)) (q : ℕ) → base + length places ≤ q → owed_at base places q ≡ None
  none_past base places q l = grind (arith, nat_tests, past_end places (q - base) (omega (arith, l)))

  pub owed_inside : (base : ℕ) (places : List (Option X)) (q i : ℕ) → q ≡ base + i → owed_at base places q ≡ slice_index_or places i None
  owed_inside base places q i e =
      grind (arith, nat_tests, ap (λ j. slice_index_or places j None) (let f : q - base ≡ i = omega (arith, e) in f))

module _ {X : Type 0} where
  pub owed_map-push : (base : ℕ) (places : List (Option X)) (message : X) → owed_map base (places ++ Some message ∷ []) ≡ map.insert (owed_map base places) (base + length places) message
  owed_map-push base places message = same_map nat_cmp_total nat_cmp-IsAntisymmetric _ _ (λ q. get-owed_map base _ q ∙ at q ∙ sym (get-insert nat_cmp_total (owed_map base places) (base + length places) message q ∙ ap (cond (eq_by_cmp nat_cmp q (base + length places)) (Some message)) (get-owed_map base places q)))
    where
      at : (q : ℕ) → owed_at base (places ++ Some message ∷ []) q ≡ cond (eq_by_cmp nat_cmp q (base + length places)) (Some message) (owed_at base places q)
      at q = grind (arith, nat_tests, at_end places (Some message) (q - base))

  set_at : (places : List (Option X)) (i j : ℕ) → i < length places → slice_index_or (slice_set places i None) j None ≡ cond (nat_eq j i) None (slice_index_or places j None)
  set_at [] i j l = absurd (omega arith)
  set_at (x ∷ places) zero zero l = refl
  set_at (x ∷ places) zero (suc j) l = grind (arith, nat_tests)
  set_at (x ∷ places) (suc i) zero l = grind (arith, nat_tests)
  set_at (x ∷ places) (suc i) (suc j) l = grind (arith, nat_tests, set_at places i j (omega (arith, l)))

  pub owed_map-acked : (base : ℕ) (places : List (Option X)) (slot i : ℕ) → slot ≡ base + i → i < length places → owed_map base (slice_set places i None) ≡ map.remove (owed_map base places) slot
  owed_map-acked base places slot i f l = same_map nat_cmp_total nat_cmp-IsAntisymmetric _ _ (λ q. get-owed_map base _ q ∙ at q ∙ sym (get-remove nat_cmp_total (owed_map base places) slot q ∙ ap (cond (eq_by_cmp nat_cmp q slot) None) (get-owed_map base places q)))
    where
      at : (q : ℕ) → owed_at base (slice_set places i None) q ≡ cond (eq_by_cmp nat_cmp q slot) None (owed_at base places q)
      at q = grind (arith, nat_tests, f, set_at places i (q - base) l)

  -- a slot that isn't owed is taken out in vain
  pub remove-absent : (m : map.FinMap nat_cmp X) (k : ℕ) → map.get m k ≡ None → map.remove m k ≡ m
  remove-absent m k h = same_map nat_cmp_total nat_cmp-IsAntisymmetric _ _ (λ q. elim (eqb_tells q k) [
    | inl e ↦ grind (arith, nat_tests, get-remove nat_cmp_total m k q, e.1, ap (map.get m) e.1, h)
    | inr e ↦ grind (arith, nat_tests, get-remove nat_cmp_total m k q, e.1)
  ])

  pub len-put_new : (m : map.FinMap nat_cmp X) (k : ℕ) (v : X) → map.get m k ≡ None → map.len (map.insert m k v) ≡ map.len m + 1
  len-put_new m k v h = len-insert nat_cmp_total m k v ∙ ap (λ o. cond (is_some o) (map.len m) (map.len m + 1)) h

  pub len-taken : (m : map.FinMap nat_cmp X) (k : ℕ) → map.contains_key m k ≡ true → map.len (map.remove m k) ≡ map.len m - 1
  len-taken m k h = len-remove nat_cmp_total m k ∙ ap (λ b. cond b (map.len m - 1) (map.len m)) h

  pub owed_map-next : (base : ℕ) (places : List (Option X)) → owed_map base (None ∷ places) ≡ owed_map (base + 1) places
  unfolding owed_map
  owed_map-next base places = refl

  pub owed_map-none : (base : ℕ) → owed_map {X = X} base [] ≡ map.empty
  unfolding owed_map
  owed_map-none base = refl

  len-from_entries : (es : List (ℕ × X)) → map.len (map.from_entries {R = nat_cmp} es) ≤ length es
  len-from_entries [] = omega (arith, map.len-empty nat_cmp X)
  len-from_entries (e ∷ es) = grind (arith, len-from_entries es, len-insert nat_cmp_total (map.from_entries {R = nat_cmp} es) e.0 e.1)

  length-owed_from : (base : ℕ) (places : List (Option X)) → length (owed_from base places) ≤ length places
  length-owed_from base [] = omega arith
  length-owed_from base (None ∷ places) = omega (arith, length-owed_from (base + 1) places)
  length-owed_from base (Some m ∷ places) = omega (arith, length-owed_from (base + 1) places)

  pub len-owed_map : (base : ℕ) (places : List (Option X)) → map.len (owed_map base places) ≤ length places
  unfolding owed_map
  len-owed_map base places = omega (arith, len-from_entries (owed_from base places), length-owed_from base places)

  pub StartsOwed-push : (places : List (Option X)) (message : X) → StartsOwed places → StartsOwed (places ++ Some message ∷ [])
  StartsOwed-push [] message h = tt
  StartsOwed-push (None ∷ places) message h = h
  StartsOwed-push (Some m ∷ places) message h = tt

  owed_some : (o : Option X) → o ≡ None → is_some o ≡ true → ⊥
  owed_some o e h = true≢false (sym h ∙ ap is_some e)

  -- a slot that is owed is a place
  pub owed_place : (base : ℕ) (places : List (Option X)) (slot : ℕ) → map.contains_key (owed_map base places) slot ≡ true → (base ≤ slot) × (slot - base < length places)
  owed_place base places slot h =
      let hit = sym (ap is_some (get-owed_map base places slot)) ∙ h in
      let least : base ≤ slot = grind (arith, nat_tests, hit) in (
        least,
        elim (leb_tells (length places) (slot - base)) [
          | inl m ↦ absurd (owed_some _ (none_past base places slot (omega (arith, least, m.1))) hit)
          | inr m ↦ omega (arith, m.1)
        ],
      )

  pub len-some : (m : map.FinMap nat_cmp X) (k : ℕ) → map.contains_key m k ≡ true → 1 ≤ map.len m
  len-some m k h = elim (leb_tells 1 (map.len m)) [ inl l ↦ l.1 | inr l ↦ absurd (owed_some _ (ap (λ m. map.get m k) (map.empty_of_len m (omega (arith, l.1))) ∙ get-empty nat_cmp k) h) ]

  pub popped : (before after : List (Option X)) → 0 < length before → slice_index_or before 0 None ≡ None → after ≡ drop 1 before → before ≡ None ∷ after
  popped [] after l h e = absurd (omega arith)
  popped (x ∷ before) after l h e = λ i. h i ∷ sym e i
