-- How a node's deliveries grow with its own steps. Its next number is the least that it may not deliver; a step
-- delivers what lies between two of these numbers.
use Rattle.std.proofs.Common.{◌≡◌, ℕ, zero, suc, ◌+◌, ◌-◌, ◌<◌, ◌≤◌, refl, sym, ◌∙◌, ap, subst, Bool, true, false, ◌&&◌, ◌||◌, cond, List, [], ◌∷◌, ◌++◌, length, map, Option, Some, None, inl, inr, arith}
use Rattle.std.specs.Prelude.{◌==◌}
use Rattle.std.specs.List.{filter, list_any, filter_map, cons_option, prefix_len, range_with_len}
use Rattle.std.proofs.lemmas.List.{append-nil}
use Rattle.std.proofs.lemmas.List.Elements.{filter-append, filter_map-append}
use Rattle.std.proofs.lemmas.Bool.{and_parts, eq-eqb, eqb-true, ne_eqb, cases_lt, cases_eq, false≢true, false_from_ne_true}
use Rattle.std.proofs.lemmas.List.FromFn.{length-range_with_len}
use Rattle.cast_message.specs.declared.config.Config.{Config}
use Rattle.cast_message.specs.declared.message.Message.{Message}
use Rattle.cast_model.specs.History.{FirstCopy, has_pair}
use Rattle.cast_model.specs.Delivery.{is_pair}
use Rattle.cast_model.specs.Headline.{is_from}
use Rattle.cast_model.specs.Steps.{Step, Steps, Held, copy_of, held}
use Rattle.cast_model.specs.OwnSteps.{own_copies, own_is_ready, own_next, message_at, messages_from, own_delivered, own_concerned, own_turns, own_deliveries, own_log, IsOwnAccepted}
use Rattle.cast_model.proofs.Members.{Member, here, there}
use Rattle.cast_model.proofs.Sound.{Member-has_pair}
use Rattle.cast_model.proofs.Fronts.{filter_all, filter_none}
use Rattle.cast_model.proofs.RoundSpreads.{Member-map}
use Rattle.cast_model.proofs.Agreement.{pigeonhole}
use Rattle.cast_model.proofs.Decisions.{Member-filter_map}
use Rattle.cast_model.proofs.Dues.{Once-range, Once-distinct, range_bounds}
use Rattle.cast_model.proofs.OwnTurns.{length-map}
use Rattle.cast_model.proofs.OwnGrowth.{brought, held-more, own_ready_kept, own_ready_same}

-- how far the numbers from a on pass a test
range_passes : (f : ℕ → Bool) (room a i : ℕ) → i < prefix_len f (range_with_len a room) → f (a + i) ≡ true
range_passes f zero a i h = absurd (omega arith)
range_passes f (suc room) a i h = by_test (f a) refl i (λ k. range_passes f room (a + 1) k) h
  where
    by_test : (b : Bool) → f a ≡ b → (i : ℕ) → ((k : ℕ) → k < prefix_len f (range_with_len (a + 1) room) → f ((a + 1) + k) ≡ true) → i < cond b (1 + prefix_len f (range_with_len (a + 1) room)) 0 → f (a + i) ≡ true
    by_test false e i ih h = absurd (omega arith)
    by_test true e zero ih h = subst (λ x. f x ≡ true) (let z : a ≡ a + 0 = omega arith in z) e
    by_test true e (suc k) ih h = subst (λ x. f x ≡ true) (let z : (a + 1) + k ≡ a + suc k = omega arith in z) (ih k (omega arith))

range_stops : (f : ℕ → Bool) (room a : ℕ) → prefix_len f (range_with_len a room) < room → f (a + prefix_len f (range_with_len a room)) ≡ false
range_stops f zero a h = absurd (omega arith)
range_stops f (suc room) a h = by_test (f a) refl (range_stops f room (a + 1)) h
  where
    by_test : (b : Bool) → f a ≡ b → (prefix_len f (range_with_len (a + 1) room) < room → f ((a + 1) + prefix_len f (range_with_len (a + 1) room)) ≡ false) →
        cond b (1 + prefix_len f (range_with_len (a + 1) room)) 0 < suc room → f (a + cond b (1 + prefix_len f (range_with_len (a + 1) room)) 0) ≡ false
    by_test false e ih h = subst (λ x. f x ≡ false) (let z : a ≡ a + 0 = omega arith in z) e
    by_test true e ih h =
        let n = prefix_len f (range_with_len (a + 1) room) in
        subst (λ x. f x ≡ false) (let z : (a + 1) + n ≡ a + (1 + n) = omega arith in z) (ih (omega arith))

module _ (config : Config) (me : ℕ) (steps : Steps) (s : ℕ) where
  -- below its next number it may deliver each
  pub own_below_next : (i : ℕ) → i < own_next config me steps s → own_is_ready config me steps s i ≡ true
  unfolding own_next
  own_below_next i h = subst (λ k. own_is_ready config me steps s k ≡ true) (let z : 0 + i ≡ i = omega arith in z) (range_passes (own_is_ready config me steps s) (length (held me steps)) 0 i h)

  pub own_held_below : (i : ℕ) → own_is_ready config me steps s i ≡ true → has_pair (own_copies me steps) s i ≡ true
  unfolding own_is_ready
  own_held_below i e = (and_parts (has_pair (own_copies me steps) s i) _ e).0

  -- it may not deliver more numbers of one sender than it holds pairs
  ready_within : (n : ℕ) → ((i : ℕ) → i < n → own_is_ready config me steps s i ≡ true) → n ≤ length (held me steps)
  ready_within n all =
      let h = pigeonhole (range_with_len 0 n) (map (λ copy. copy.number) (own_copies me steps)) (Once-distinct (range_with_len 0 n) (Once-range n 0)) (λ i m.
      let inside = (range_bounds n 0 i m).1 in
      let found = Member-has_pair (own_copies me steps) s i (own_held_below i (all i (omega (arith, inside)))) in
      subst (λ k. Member k (map (λ (copy : FirstCopy). copy.number) (own_copies me steps))) found.3 (Member-map (λ (copy : FirstCopy). copy.number) found.0 (own_copies me steps) found.1)) in
      omega (arith, h, length-range_with_len 0 n, length-map (λ (copy : FirstCopy). copy.number) (own_copies me steps), length-map copy_of (held me steps))

  stops_inside : own_next config me steps s < length (held me steps) → own_is_ready config me steps s (own_next config me steps s) ≡ false
  unfolding own_next
  stops_inside inside =
      let n = prefix_len (own_is_ready config me steps s) (range_with_len 0 (length (held me steps))) in
      subst (λ k. own_is_ready config me steps s k ≡ false) (let z : 0 + n ≡ n = omega arith in z) (range_stops (own_is_ready config me steps s) (length (held me steps)) 0 inside)

  -- and at it not
  pub own_not_at_next : own_is_ready config me steps s (own_next config me steps s) ≡ false
  own_not_at_next = elim (cases_lt (own_next config me steps s) (length (held me steps))) [
    | inl inside ↦ stops_inside inside
    | inr full ↦ false_from_ne_true _ (λ e.
        let h = ready_within (suc (own_next config me steps s)) (λ i below. elim (cases_lt i (own_next config me steps s)) [
          | inl under ↦ own_below_next i under
          | inr at ↦ (let z : own_next config me steps s ≡ i = omega arith in subst (λ k. own_is_ready config me steps s k ≡ true) z e)
        ]) in
        omega (arith, h, full))
  ]

module _ {A B : Type 0} where
  pub filter_map_same : (f g : A → Option B) (xs : List A) → ((x : A) → Member x xs → f x ≡ g x) → filter_map f xs ≡ filter_map g xs
  filter_map_same f g [] same = refl
  filter_map_same f g (x ∷ xs) same = ap (λ o. cons_option o (filter_map f xs)) (same x here) ∙ ap (cons_option (g x)) (filter_map_same f g xs (λ y m. same y (there m)))

range_split : (a m n : ℕ) → range_with_len a (m + n) ≡ range_with_len a m ++ range_with_len (a + m) n
range_split a zero n = ap (range_with_len a) (let z : 0 + n ≡ n = omega arith in z) ∙ ap (λ k. range_with_len k n) (let z : a ≡ a + 0 = omega arith in z)
range_split a (suc m) n =
    ap (range_with_len a) (let z : suc m + n ≡ suc (m + n) = omega arith in z)
    ∙ ap (λ rest. a ∷ rest) (range_split (a + 1) m n)
    ∙ ap (λ k. a ∷ (range_with_len (a + 1) m ++ range_with_len k n)) (let z : (a + 1) + m ≡ a + suc m = omega arith in z)

-- a held message stays
pub message_at-kept : (hs more : List Held) (s i : ℕ) → has_pair (map copy_of hs) s i ≡ true → message_at (hs ++ more) s i ≡ message_at hs s i
unfolding message_at has_pair
message_at-kept [] more s i e = absurd (false≢true e)
message_at-kept (h ∷ hs) more s i e = by_test (is_pair (copy_of h) s i) e (message_at-kept hs more s i)
  where
    by_test : (b : Bool) → (b || list_any (λ copy. copy.sender == s && copy.number == i) (map copy_of hs)) ≡ true →
        (list_any (λ copy. copy.sender == s && copy.number == i) (map copy_of hs) ≡ true → message_at (hs ++ more) s i ≡ message_at hs s i) →
        cond b (Some h.message) (message_at (hs ++ more) s i) ≡ cond b (Some h.message) (message_at hs s i)
    by_test true e ih = refl
    by_test false e ih = ih e

pub message_at-sender : (hs : List Held) (s i : ℕ) (message : Message) → message_at hs s i ≡ Some message → message.sender ≡ s
unfolding message_at
message_at-sender [] s i message e = absurd (cc)
message_at-sender (h ∷ hs) s i message e = by_test (is_pair (copy_of h) s i) refl e (message_at-sender hs s i message)
  where
    by_test : (b : Bool) → is_pair (copy_of h) s i ≡ b → cond b (Some h.message) (message_at hs s i) ≡ Some message → (message_at hs s i ≡ Some message → message.sender ≡ s) → message.sender ≡ s
    by_test true same e ih = let is : h.message ≡ message = cc in sym (ap (λ m. m.sender) is) ∙ eqb-true h.message.sender s (and_parts (h.message.sender == s) _ same).0
    by_test false differs e ih = ih e

pub messages_sender : (hs : List Held) (s a b : ℕ) (message : Message) → Member message (messages_from hs s a b) → message.sender ≡ s
unfolding messages_from
messages_sender hs s a b message m = let r = Member-filter_map (message_at hs s) message (range_with_len a (b - a)) m in message_at-sender hs s r.0 message r.2

pub no_messages : (hs : List Held) (s n : ℕ) → messages_from hs s n n ≡ []
unfolding messages_from
no_messages hs s n = ap (λ k. filter_map (message_at hs s) (range_with_len n k)) (let z : n - n ≡ 0 = omega arith in z)

module _ (config : Config) (me : ℕ) (step : Step) (steps : Steps) (accepted : IsOwnAccepted config me (step ∷ steps)) (s : ℕ) where
  pub own_next_grows : own_next config me steps s ≤ own_next config me (step ∷ steps) s
  own_next_grows = elim (cases_lt (own_next config me (step ∷ steps) s) (own_next config me steps s)) [
    | inr fine ↦ fine
    | inl below ↦ absurd (false≢true (sym (own_not_at_next config me (step ∷ steps) s) ∙ own_ready_kept config me step steps accepted s (own_next config me (step ∷ steps) s) (own_below_next config me steps s (own_next config me (step ∷ steps) s) below)))
  ]

  pub own_next_same : (own_concerned me steps step ≡ Some s → ⊥) → own_next config me (step ∷ steps) s ≡ own_next config me steps s
  own_next_same apart = elim (cases_lt (own_next config me steps s) (own_next config me (step ∷ steps) s)) [
    | inr fine ↦ (let low = own_next_grows in omega (arith, low, fine))
    | inl above ↦ absurd (false≢true (sym (own_not_at_next config me steps s) ∙ sym (own_ready_same config me step steps accepted s (own_next config me steps s) apart) ∙ own_below_next config me (step ∷ steps) s (own_next config me steps s) above))
  ]

  -- what it delivered stays in front, and what lies between the two next numbers is added
  pub delivered_more : own_delivered config me (step ∷ steps) s ≡ own_delivered config me steps s ++ messages_from (held me (step ∷ steps)) s (own_next config me steps s) (own_next config me (step ∷ steps) s)
  unfolding own_delivered messages_from
  delivered_more =
      let n = own_next config me steps s in
      let l = own_next config me (step ∷ steps) s in
      let low = own_next_grows in
      let all = held me (step ∷ steps) in
      let z : 0 + n ≡ n = omega arith in
      ap (λ k. filter_map (message_at all s) (range_with_len 0 k)) (let e : l - 0 ≡ n + (l - n) = omega (arith, low) in e)
      ∙ ap (filter_map (message_at all s)) (range_split 0 n (l - n))
      ∙ filter_map-append (message_at all s) (range_with_len 0 n) (range_with_len (0 + n) (l - n))
      ∙ ap (λ front. front ++ filter_map (message_at all s) (range_with_len (0 + n) (l - n))) (filter_map_same (message_at all s) (message_at (held me steps) s) (range_with_len 0 n) (λ i m.
      let inside = (range_bounds n 0 i m).1 in
      ap (λ hs. message_at hs s i) (held-more me step steps)
      ∙ message_at-kept (held me steps) (brought me steps step) s i (own_held_below config me steps s i (own_below_next config me steps s i (omega (arith, inside))))))
      ∙ ap (λ k. filter_map (message_at (held me steps) s) (range_with_len 0 k) ++ filter_map (message_at all s) (range_with_len (0 + n) (l - n))) (let e : n ≡ n - 0 = omega arith in e)
      ∙ ap (λ k. filter_map (message_at (held me steps) s) (range_with_len 0 (n - 0)) ++ filter_map (message_at all s) (range_with_len k (l - n))) z

  pub own_delivered_other : (own_concerned me steps step ≡ Some s → ⊥) → own_delivered config me (step ∷ steps) s ≡ own_delivered config me steps s
  own_delivered_other apart =
      delivered_more ∙ ap (λ more. own_delivered config me steps s ++ more) (ap (messages_from (held me (step ∷ steps)) s (own_next config me steps s)) (own_next_same apart) ∙ no_messages (held me (step ∷ steps)) s (own_next config me steps s)) ∙ append-nil (own_delivered config me steps s)

-- what a step adds to its log, from one sender
log_gains : (config : Config) (me : ℕ) (step : Step) (steps : Steps) → IsOwnAccepted config me (step ∷ steps) → (s : ℕ) → own_delivered config me steps s ++ filter (is_from s) (own_deliveries config me steps step) ≡ own_delivered config me (step ∷ steps) s
unfolding own_deliveries
log_gains config me step steps accepted s = by_concerned (own_concerned me steps step) refl
  where
    other : (own_concerned me steps step ≡ Some s → ⊥) → (o : Option ℕ) → filter (is_from s) (own_turns config me steps step o) ≡ [] → own_delivered config me steps s ++ filter (is_from s) (own_turns config me steps step o) ≡ own_delivered config me (step ∷ steps) s
    other apart o none = ap (λ more. own_delivered config me steps s ++ more) none ∙ append-nil (own_delivered config me steps s) ∙ sym (own_delivered_other config me step steps accepted s apart)

    by_concerned : (o : Option ℕ) → own_concerned me steps step ≡ o → own_delivered config me steps s ++ filter (is_from s) (own_turns config me steps step o) ≡ own_delivered config me (step ∷ steps) s
    by_concerned None e = other (λ is. let clash : ◌≡◌ {A = Option ℕ} None (Some s) = sym e ∙ is in absurd (cc)) None refl
    by_concerned (Some x) e = elim (cases_eq x s) [
      | inl same ↦
          (let is : own_concerned me steps step ≡ Some s = e ∙ ap (λ y. Some y) same in
          ap (λ more. own_delivered config me steps s ++ more) (filter_all (is_from s) (own_turns config me steps step (Some x)) (λ message m. eq-eqb message.sender s (messages_sender (held me (step ∷ steps)) x (own_next config me steps x) (own_next config me (step ∷ steps) x) message m ∙ same)))
          ∙ ap (λ y. own_delivered config me steps s ++ own_turns config me steps step (Some y)) same
          ∙ sym (delivered_more config me step steps accepted s))
      | inr differs ↦ other (λ is. let both : ◌≡◌ {A = Option ℕ} (Some x) (Some s) = sym e ∙ is in differs (cc)) (Some x)
          (filter_none (is_from s) (own_turns config me steps step (Some x)) (λ message m. ne_eqb message.sender s (λ y. differs (sym (messages_sender (held me (step ∷ steps)) x (own_next config me steps x) (own_next config me (step ∷ steps) x) message m) ∙ y))))
    ]

-- all that it delivered from one sender, in order
pub own_log-front : (config : Config) (me : ℕ) (steps : Steps) → IsOwnAccepted config me steps → (s : ℕ) → filter (is_from s) (own_log config me steps) ≡ own_delivered config me steps s
unfolding own_log IsOwnAccepted own_delivered own_next held messages_from
own_log-front config me [] accepted s = refl
own_log-front config me (step ∷ steps) accepted s =
    filter-append (is_from s) (own_log config me steps) (own_deliveries config me steps step)
    ∙ ap (λ before. before ++ filter (is_from s) (own_deliveries config me steps step)) (own_log-front config me steps accepted.0 s)
    ∙ log_gains config me step steps accepted s
