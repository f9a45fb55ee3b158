-- The marks of a link: those of the slots that were acknowledged are set, and no others.
use Rattle.std.specs.Prelude.{◌≡◌, ℕ, ◌+◌, ◌-◌, ◌*◌, ◌/◌, ◌%◌, ◌^◌, ◌≤◌, ◌<◌, nat_lt, nat_eq, Bool, true, not, ◌&&◌, ◌||◌, List, [], ◌∷◌, ◌++◌, length, drop, slice_index, slice_set, Option, Some, None, is_some, refl}
use Rattle.std.specs.Ordering.{nat_cmp}
use Rattle.std.specs.Cmp.{nat_cmp_total}
use Rattle.std.specs.FinMap as map
use Rattle.std.specs.FinMap.{get-insert, get-remove}
use Rattle.std.specs.Int.{bit_at}
use Rattle.std.proofs.Common.{sym, ap, ◌∙◌, subst, arith, length-append, length-drop}
use Rattle.std.proofs.Math.ListN.{length-set}
use Rattle.std.proofs.lemmas.Bool.Decides.{nat_tests}
use Rattle.std.proofs.lemmas.Nat.Bits.{bit_at_ones, same_from_bits_below}
use Rattle.std.proofs.lemmas.Bool.{le-ltb}
use Rattle.cast_message.specs.Bits.{is_set}
use Rattle.cast_message.proofs.Numbers.{no_bit}
use Rattle.cast_link.specs.Taken.{bit_of, SetsBit, IsFullWord}
use Rattle.cast_link.specs.Links.{Link, with_given, with_acknowledged, owed_map, link_of, is_acknowledged, StartsOwed, KeepsOwed}
use Rattle.cast_link.proofs.Slots.{is_set-drop}
use Rattle.cast_link.proofs.Windows.{get-owed_map, none_past, owed_map-push, owed_map-acked, owed_map-none, len-put_new, StartsOwed-push}

module _ {X : Type 0} where
  not_some : (b : Bool) (o : Option X) → (b && not (is_some o)) ≡ true → o ≡ None
  not_some b None e = refl
  not_some b (Some m) e = grind (arith, nat_tests, e)

-- ---- which slots were acknowledged

module _ {X : Type 0} where
  -- a slot that was not given before is not
  none_new : (link : Link X) (message : X) (slot : ℕ) → is_acknowledged (with_given link message) slot ≡ is_acknowledged link slot
  none_new link message slot = grind (arith, nat_tests, get-insert nat_cmp_total link.owed link.given message slot)

  -- one slot more, where it was given
  one_more : (link : Link X) (slot q : ℕ) → slot < link.given → is_acknowledged (with_acknowledged link slot) q ≡ (nat_eq q slot || is_acknowledged link q)
  one_more link slot q l = grind (arith, nat_tests, l, get-remove nat_cmp_total link.owed slot q)

-- ---- bits in words

-- a word with all bits set
pub full_bits : (words : List ℕ) (bit k : ℕ) → slice_index words (bit / 64) ≡ 2 ^ 64 - 1 → k < 64 - bit % 64 → is_set words (bit + k) ≡ true
full_bits words bit k e l =
    let place : (bit + k) / 64 ≡ bit / 64 = omega (arith, l) in
    ap (λ w. nat_eq (bit_at w ((bit + k) % 64)) 1) (ap (slice_index words) place ∙ e) ∙ ap (λ b. nat_eq b 1) (bit_at_ones 64 ((bit + k) % 64) (omega arith))

-- a word is full where its bits are
pub full_by_bits : (words : List ℕ) (place : ℕ) → slice_index words place < 2 ^ 64 → IsFullWord words place → slice_index words place ≡ 2 ^ 64 - 1
full_by_bits words place l full = same_from_bits_below 64 (slice_index words place) (2 ^ 64 - 1) l (omega arith) (λ k m. eq_tells _ 1 (set k m) ∙ sym (bit_at_ones 64 k m))
  where
    eq_tells : (a b : ℕ) → nat_eq a b ≡ true → a ≡ b
    eq_tells a b e = grind (arith, nat_tests)

    set : (k : ℕ) → k < 64 → nat_eq (bit_at (slice_index words place) k) 1 ≡ true
    set k m =
        let at : (64 * place + k) / 64 ≡ place = omega (arith, m) in
        let within : (64 * place + k) % 64 ≡ k = omega (arith, m) in
        sym (λ i. nat_eq (bit_at (slice_index words (at i)) (within i)) 1) ∙ full k m

same_bits : (marks room : List ℕ) → ((k : ℕ) → slice_index room k ≡ slice_index marks k) → (bit : ℕ) → is_set room bit ≡ is_set marks bit
same_bits marks room same bit = ap (λ w. nat_eq (bit_at w (bit % 64)) 1) (same (bit / 64))

-- ---- what keeps a link

module _ {X : Type 0} where
  -- none is owed where a mark is set
  none_marked : (base : ℕ) (places : List (Option X)) (marks : List ℕ) (owed slot : ℕ) → KeepsOwed base places marks owed → base ≤ slot → is_set marks (bit_of base slot) ≡ true → map.get (owed_map base places) slot ≡ None
  none_marked base places marks owed slot h l e =
      let at : 64 * (base / 64) + bit_of base slot ≡ slot = omega (arith, l) in
      not_some (nat_lt slot (base + length places)) (map.get (owed_map base places) slot) (sym (ap (is_acknowledged (link_of base places)) at) ∙ sym (h.exact (bit_of base slot)) ∙ e)

  -- none is owed in a word that is marked in full
  pub none_in_word : (base : ℕ) (places : List (Option X)) (marks : List ℕ) (owed slot n other : ℕ) → KeepsOwed base places marks owed → base ≤ slot → ((k : ℕ) → k < n → is_set marks (bit_of base slot + k) ≡ true) → slot ≤ other → other < slot + n → map.get (owed_map base places) other ≡ None
  none_in_word base places marks owed slot n other h l marked m below =
      let same : bit_of base slot + (other - slot) ≡ bit_of base other = omega (arith, l, m) in
      none_marked base places marks owed other h (omega (arith, l, m)) (ap (is_set marks) (sym same) ∙ marked (other - slot) (omega (arith, m, below)))

  -- more room for marks, up to the next slot's
  pub more_room : (base : ℕ) (places after : List (Option X)) (marks room : List ℕ) (owed bit : ℕ) → KeepsOwed base places marks owed → after ≡ places → ((k : ℕ) → slice_index room k ≡ slice_index marks k) → length marks ≤ length room → bit ≡ bit_of base (base + length places) → ((n : ℕ) → length marks ≤ n → bit / 64 < n → length room ≤ n) → KeepsOwed base after room owed
  more_room base places after marks room owed bit h e same more at few = subst (λ ps. KeepsOwed base ps room owed) (sym e) record {
    fits = h.fits;
    starts = h.starts;
    count = h.count;
    exact = λ bit. same_bits marks room same bit ∙ h.exact bit;
    room = omega (arith, h.room, more);
    few = let most = few (bit / 64 + 1) (omega (arith, at, h.few)) (omega arith) in omega (arith, at, most);
  }

  -- the slot given last is owed, and was not acknowledged
  marks_with_last : (base : ℕ) (places : List (Option X)) (message : X) (bit : ℕ) → is_acknowledged (link_of base (places ++ Some message ∷ [])) (64 * (base / 64) + bit) ≡ is_acknowledged (link_of base places) (64 * (base / 64) + bit)
  marks_with_last base places message bit =
      let long : base + length (places ++ Some message ∷ []) ≡ base + length places + 1 = omega (arith, length-append places (Some message ∷ [])) in
      (λ i. is_acknowledged (record { given = long i; owed = owed_map-push base places message i }) (64 * (base / 64) + bit)) ∙ none_new (link_of base places) message (64 * (base / 64) + bit)

  -- one slot more
  pub one_given : (base : ℕ) (places after : List (Option X)) (marks : List ℕ) (owed : ℕ) (message : X) → KeepsOwed base places marks owed → after ≡ places ++ Some message ∷ [] → base + length places + 1 < 2 ^ 64 → bit_of base (base + length places) / 64 < length marks → KeepsOwed base after marks (owed + 1)
  one_given base places after marks owed message h e fits room =
      subst (λ (ps : List (Option X)). KeepsOwed base ps marks (owed + 1)) (sym e) record {
        fits = omega (arith, fits, long);
        starts = StartsOwed-push places message h.starts;
        count = ap (λ n. n + 1) h.count ∙ sym (ap map.len (owed_map-push base places message) ∙ len-put_new (owed_map base places) (base + length places) message absent);
        exact = λ bit. h.exact bit ∙ sym (marks_with_last base places message bit);
        room = omega (arith, long, room);
        few = omega (arith, long, h.few);
      }
    where
      long : length (places ++ Some message ∷ []) ≡ length places + 1
      long = length-append places (Some message ∷ [])

      absent : map.get (owed_map base places) (base + length places) ≡ None
      absent = get-owed_map base places (base + length places) ∙ none_past base places (base + length places) (omega arith)

  -- the marks once one more slot is acknowledged
  pub one_marked : (base : ℕ) (places : List (Option X)) (marks after : List ℕ) (owed slot i : ℕ) → KeepsOwed base places marks owed → slot ≡ base + i → i < length places → SetsBit marks (bit_of base slot) after → (bit : ℕ) → is_set after bit ≡ is_acknowledged (link_of base (slice_set places i None)) (64 * (base / 64) + bit)
  one_marked base places marks after owed slot i h at within bits bit =
      bits bit
      ∙ (λ k. same_test k || h.exact bit k)
      ∙ sym (one_more (link_of base places) slot (64 * (base / 64) + bit) (omega (arith, at, within)))
      ∙ (λ k. is_acknowledged (record { given = long k; owed = sym (owed_map-acked base places slot i at within) k }) (64 * (base / 64) + bit))
    where
      long : base + length places ≡ base + length (slice_set places i None)
      long = omega (arith, length-set places i None)

      same_test : nat_eq bit (bit_of base slot) ≡ nat_eq (64 * (base / 64) + bit) slot
      same_test = grind (arith, nat_tests)

  -- a link whose base has moved on, with the words before its own dropped
  pub keeps_owed : (before base : ℕ) (places : List (Option X)) (link : Link X) (marks after : List ℕ) (owed : ℕ) → before ≤ base → link_of base places ≡ link → ((bit : ℕ) → is_set marks bit ≡ is_acknowledged link (64 * (before / 64) + bit)) → link.given - 64 * (before / 64) ≤ 64 * length marks → 64 * length marks ≤ link.given - 64 * (before / 64) + 64 → after ≡ drop (base / 64 - before / 64) marks → link.given < 2 ^ 64 → StartsOwed places → owed ≡ map.len link.owed → KeepsOwed base places after owed
  keeps_owed before base places link marks after owed later same marked room few e fits starts count =
      subst (λ ms. KeepsOwed base places ms owed) (sym e) record {
        fits = omega (arith, ends, fits);
        starts = starts;
        count = count ∙ ap (λ (l : Link X). map.len l.owed) (sym same);
        exact = λ bit.
            is_set-drop marks moved bit (64 * moved + bit) refl
            ∙ marked (64 * moved + bit)
            ∙ (λ i. is_acknowledged (sym same i) ((let at : 64 * (before / 64) + (64 * moved + bit) ≡ 64 * (base / 64) + bit = omega (arith, later) in at) i));
        room = omega (arith, room, later, ends, length-drop moved marks);
        few = omega (arith, few, later, ends, length-drop moved marks);
      }
    where
      moved : ℕ
      moved = base / 64 - before / 64

      ends : base + length places ≡ link.given
      ends = ap (λ (l : Link X). l.given) same

  pub nothing_kept : KeepsOwed {X = X} 0 [] [] 0
  nothing_kept = record {
    fits = omega arith;
    starts = tt;
    count = sym (ap map.len (owed_map-none 0) ∙ map.len-empty nat_cmp X);
    exact = λ bit. no_bit [] bit (omega arith) ∙ sym (ap (λ b. b && not (map.contains_key (owed_map {X = X} 0 []) (64 * (0 / 64) + bit))) (le-ltb (64 * (0 / 64) + bit) 0 (omega arith)));
    room = omega arith;
    few = omega arith;
  }
