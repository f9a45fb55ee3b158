-- Slots taken, as a base, bits and an ordered set.
use Rattle.std.specs.Prelude.{◌≡◌, ℕ, zero, suc, ◌+◌, ◌-◌, ◌*◌, ◌/◌, ◌%◌, ◌^◌, ◌≤◌, ◌<◌, nat_eq, Bool, true, false, cond, ◌&&◌, ◌||◌, List, [], ◌∷◌, length, slice_index, drop, refl}
use Rattle.std.specs.List.{All, list_any}
use Rattle.std.specs.Int.{bit_at}
use Rattle.std.specs.Ordering.{nat_cmp}
use Rattle.std.specs.BTreeMap.{is_at}
use Rattle.std.specs.FinSet as set
use Rattle.std.proofs.Common.{sym, ap, ◌∙◌, subst, arith, inl, inr}
use Rattle.std.specs.BTreeSet.{insert_key}
use Rattle.std.proofs.lemmas.List.Folds.{list_any_none}
use Rattle.std.proofs.lemmas.Map.Views.{All-insert_key}
use Rattle.std.proofs.lemmas.Bool.Decides.{nat_tests, leb_tells}
use Rattle.std.proofs.lemmas.Bool.{lt-ltb}
use Rattle.cast_message.proofs.Tests.{tie}
use Rattle.cast_message.specs.Bits.{is_set}
use Rattle.cast_message.specs.Members.{contains-members_below, members_below-insert}
use Rattle.cast_message.proofs.Numbers.{no_bit}
use Rattle.cast_link.specs.Taken.{bit_of, is_taken, is_marked, taken_set, IsWindow}

pub taken_in : (base : ℕ) (words far : List ℕ) (s : set.FinSet nat_cmp) → taken_set base words far ≡ s → (q : ℕ) → q < 2 ^ 64 → is_taken base words far q ≡ set.contains s q
taken_in base words far s e q l = sym (contains-members_below (2 ^ 64) (is_taken base words far) q ∙ ap (λ b. b && is_taken base words far q) (lt-ltb q (2 ^ 64) l)) ∙ ap (λ s. set.contains s q) e

pub none_taken : (words : List ℕ) → words ≡ [] → (q : ℕ) → is_taken 0 words [] q ≡ false
none_taken words e q = grind (arith, nat_tests, no_bit words (bit_of 0 q) (omega (arith, ap length e)))

pub far_taken : (base : ℕ) (words far more : List ℕ) (s : set.FinSet nat_cmp) (k : ℕ) → taken_set base words far ≡ s → k < 2 ^ 64 → ((q : ℕ) → list_any (is_at (nat_cmp q)) more ≡ cond (is_at (nat_cmp k) q) true (list_any (is_at (nat_cmp q)) far)) → taken_set base words more ≡ set.insert s k
far_taken base words far more s k e l h =
    members_below-insert (2 ^ 64) (is_taken base words far) (is_taken base words more) k l (λ q _. grind (arith, nat_tests, h q, tie q k)) ∙ ap (λ s. set.insert s k) e

pub near_taken : (base : ℕ) (words room far : List ℕ) (s : set.FinSet nat_cmp) (k : ℕ) → taken_set base words far ≡ s → base ≤ k → k < 2 ^ 64 → ((other : ℕ) → is_set room other ≡ (nat_eq other (bit_of base k) || is_set words other)) → taken_set base room far ≡ set.insert s k
near_taken base words room far s k e least l h =
    members_below-insert (2 ^ 64) (is_taken base words far) (is_taken base room far) k l at ∙ ap (λ s. set.insert s k) e
  where
    at : (q : ℕ) → q < 2 ^ 64 → is_taken base room far q ≡ (nat_eq q k || is_taken base words far q)
    at q _ = grind (arith, nat_tests, least, h (bit_of base q))

-- ---- the window moves on

index-drop : (n : ℕ) (words : List ℕ) (i : ℕ) → slice_index (drop n words) i ≡ slice_index words (n + i)
index-drop zero words i = ap (slice_index words) (let e : i ≡ 0 + i = omega arith in e)
index-drop (suc n) [] i = refl
index-drop (suc n) (w ∷ words) i = index-drop n words i ∙ ap (slice_index (w ∷ words)) (let e : suc (n + i) ≡ suc n + i = omega arith in e)

pub is_set-drop : (words : List ℕ) (n k m : ℕ) → m ≡ 64 * n + k → is_set (drop n words) k ≡ is_set words m
is_set-drop words n k m e =
    let place : n + k / 64 ≡ m / 64 = omega (arith, e) in
    let within : k % 64 ≡ m % 64 = omega (arith, e) in
    λ i. nat_eq (bit_at ((index-drop n words (k / 64) ∙ ap (slice_index words) place) i) (within i)) 1

-- a slot keeps its bit where the words below a later base are dropped
pub bit_stays : (words : List ℕ) (base next q : ℕ) → base ≤ next → next ≤ q → is_set (drop (next / 64 - base / 64) words) (bit_of next q) ≡ is_set words (bit_of base q)
bit_stays words base next q l m = is_set-drop words (next / 64 - base / 64) (bit_of next q) (bit_of base q) (omega (arith, l, m))

and_left : (a b : Bool) → (a || b) ≡ false → a ≡ false
and_left true b e = e
and_left false b e = refl

-- what stands once a base has moved on
pub record Moves (base : ℕ) (words far : List ℕ) (next : ℕ) (words' far' : List ℕ) : Type 0 where
  pub later : base + 1 ≤ next
  pub taken : (slot : ℕ) → base + 1 ≤ slot → slot < next → is_marked base words far slot ≡ true
  pub free : next + 1 < 2 ^ 64 → is_marked base words far next ≡ false
  pub same : (slot : ℕ) → next ≤ slot → is_marked next words' far' slot ≡ is_marked next (drop (next / 64 - base / 64) words) far slot
  pub short : length words' ≤ 4097
  pub beyond : All (λ slot. next + 262144 ≤ slot) far'

marked_stays : (base : ℕ) (words far : List ℕ) (next : ℕ) (words' far' : List ℕ) → Moves base words far next words' far' → (q : ℕ) → next ≤ q → is_marked next words' far' q ≡ is_marked base words far q
marked_stays base words far next words' far' h q l = h.same q l ∙ ap (λ b. b || list_any (is_at (nat_cmp q)) far) (bit_stays words base next q (omega (arith, h.later)) l)

pub moved_window : (base : ℕ) (words far : List ℕ) (next : ℕ) (words' far' : List ℕ) → Moves base words far next words' far' → IsWindow next words' far'
moved_window base words far next words' far' h = record {
  least = λ l. and_left (is_set words' (bit_of next next)) (list_any (is_at (nat_cmp next)) far') (marked_stays base words far next words' far' h next (omega arith) ∙ h.free l);
  short = h.short;
  beyond = h.beyond;
}

pub moved_set : (base : ℕ) (words far : List ℕ) (next : ℕ) (words' far' : List ℕ) → Moves base words far next words' far' → base < 2 ^ 64 → taken_set next words' far' ≡ set.insert (taken_set base words far) base
moved_set base words far next words' far' h l = members_below-insert (2 ^ 64) (is_taken base words far) (is_taken next words' far') base l at
  where
    at : (q : ℕ) → q < 2 ^ 64 → is_taken next words' far' q ≡ (nat_eq q base || is_taken base words far q)
    at q _ = elim (leb_tells (suc q) next) [
      | inl m ↦ grind (arith, nat_tests, m.1, h.taken q)
      | inr m ↦ grind (arith, nat_tests, m.1, h.later, marked_stays base words far next words' far' h q (omega (arith, m.1)))
    ]

-- ---- one slot more

-- a slot that wasn't taken isn't below the base
pub not_below : (base : ℕ) (words far : List ℕ) (s : set.FinSet nat_cmp) (q : ℕ) → taken_set base words far ≡ s → q < 2 ^ 64 → set.contains s q ≡ false → base ≤ q
not_below base words far s q e l f = grind (arith, nat_tests, taken_in base words far s e q l, f)

-- a slot more, farther away
pub far_window : (base : ℕ) (words far more : List ℕ) (slot : ℕ) → IsWindow base words far → base + 262144 ≤ slot → more ≡ insert_key nat_cmp far slot → IsWindow base words more
far_window base words far more slot h l e = record {
  least = h.least;
  short = h.short;
  beyond = subst (All (λ slot. base + 262144 ≤ slot)) (sym e) (All-insert_key nat_cmp slot (λ slot. base + 262144 ≤ slot) far h.beyond l);
}

-- the base itself was not taken
pub base_free : (base : ℕ) (words far : List ℕ) (s : set.FinSet nat_cmp) → IsWindow base words far → taken_set base words far ≡ s → base + 1 < 2 ^ 64 → set.contains s base ≡ false
base_free base words far s h e l =
    let none = list_any_none (is_at (nat_cmp base)) far (λ k d m. grind (arith, nat_tests, h.beyond k d m)) in
    grind (arith, nat_tests, taken_in base words far s e base (omega (arith, l)), h.least l, none)
