-- What a node gave its peers, and owes them, after each step.
use Rattle.std.proofs.Common.{◌≡◌, ◌≢◌, ℕ, zero, suc, ◌+◌, ◌-◌, ◌<◌, ◌≤◌, refl, sym, ◌∙◌, ap, Bool, true, false, not, ◌&&◌, ◌||◌, cond, List, [], ◌∷◌, ◌++◌, length, Option, Some, None, inl, inr, arith, length-append, true≢false}
use Rattle.std.specs.Prelude.{◌==◌, nat_lt, slice_index_or, is_some, if◌then◌else◌}
use Rattle.std.specs.List.{filter, range_with_len}
use Rattle.std.specs.Ordering.{nat_cmp, eq_by_cmp}
use Rattle.std.specs.Cmp.{nat_cmp_total}
use Rattle.std.specs.FinMap as finite
use Rattle.std.specs.FinMap.{get-insert, get-remove, len-insert, len-remove}
use Rattle.std.proofs.lemmas.Bool.Decides.{nat_tests}
use Rattle.std.proofs.lemmas.Bool.{lt-ltb, le-ltb, cases_eq, cases_lt, false_from_ne_true, eq-eqb, ne_eqb}
use Rattle.std.proofs.Math.Seq.{get_or-append_seam}
use Rattle.std.proofs.lemmas.List.{get_or_append_left}
use Rattle.std.proofs.lemmas.List.Elements.{filter-append}
use Rattle.cast_message.proofs.Tests.{cmp_eq}
use Rattle.cast_message.proofs.Booleans.{and_false, and_true, or_false}
use Rattle.cast_message.specs.declared.config.Config.{Config}
use Rattle.cast_message.specs.declared.message.Message.{Message}
use Rattle.cast_message.specs.declared.message.Frame.{Frame}
use Rattle.cast_message.specs.declared.message.FrameBody.{FrameBody}
use Rattle.cast_message.specs.declared.message.FrameBody.TheVariants.{Carry, Took}
use Rattle.cast_model.specs.History.{is_took_of}
use Rattle.cast_model.specs.Steps.{Step, Steps, Held, frames_in}
use Rattle.cast_model.specs.OwnSteps.{own_given, own_acked, own_owed, message_in, IsOwnAccepted}
use Rattle.cast_model.proofs.Members.{Member-list_any}
use Rattle.cast_model.proofs.OwnGrowth.{frames_given, GivenTo}
use Rattle.cast_link.specs.Links.{Link, with_given}
use Rattle.cast_node.specs.Giving.{given_on}
use Rattle.cast_relay.specs.Pairs.{goes_on}
use Rattle.cast_node.specs.Turns.{given_from}
use Rattle.cast_node.specs.Stands.{owed_in, StandsOut}

abbrev pub goes : ℕ → ℕ → Message → ℕ → Link Message → Link Message
goes me source message q link = cond (goes_on me message.sender source q) (with_given link message) link

pub given_from-at : (q : ℕ) (me : ℕ) (source : ℕ) (message : Message) (links : List (Link Message)) (i : ℕ) (d : Link Message) → i < length links → slice_index_or (given_from q me source message links) i d ≡ goes me source message (q + i) (slice_index_or links i d)
unfolding given_on
given_from-at q me source message [] i d h = absurd (omega (arith, h))
given_from-at q me source message (link ∷ links) zero d h = ap (λ k. goes me source message k link) (let z : q ≡ q + 0 = omega arith in z)
given_from-at q me source message (link ∷ links) (suc i) d h =
    given_from-at (q + 1) me source message links i d (omega (arith, h))
    ∙ ap (λ k. goes me source message k (slice_index_or links i d)) (let z : (q + 1) + i ≡ q + suc i = omega arith in z)

-- a slot that isn't given is not acknowledged
pub acked_given : (config : Config) (me : ℕ) (steps : Steps) → IsOwnAccepted config me steps → (q slot : ℕ) → own_acked steps q slot ≡ true → slot < length (own_given me steps q)
unfolding own_acked
acked_given config me steps accepted q slot e =
    let found = Member-list_any (λ (frame : Frame). frame.from == q && is_took_of slot frame.body) (frames_in steps) e in
    by_body found.0.from found.0.body (frames_given config me steps accepted found.0 found.1) found.2
  where
    by_body : (from : ℕ) (body : FrameBody) → GivenTo me steps from body → (from == q && is_took_of slot body) ≡ true → slot < length (own_given me steps q)
    by_body from (Carry place message) h t = absurd (true≢false (sym t ∙ and_false (from == q)))
    by_body from (Took place) h t = grind (arith, nat_tests)

pub range-more : (n a : ℕ) → range_with_len a (n + 1) ≡ range_with_len a n ++ (a + n) ∷ []
range-more zero a = ap (λ k. k ∷ []) (let z : a ≡ a + 0 = omega arith in z)
range-more (suc n) a = ap (range_with_len a) (let z : suc n + 1 ≡ suc (n + 1) = omega arith in z) ∙ ap (λ xs. a ∷ xs) (range-more n (a + 1) ∙ ap (λ k. range_with_len (a + 1) n ++ k ∷ []) (let z : (a + 1) + n ≡ a + suc n = omega arith in z))

-- with one place more
pub place_more : (p : ℕ → Bool) (n : ℕ) → length (filter p (range_with_len 0 (n + 1))) ≡ length (filter p (range_with_len 0 n)) + cond (p n) 1 0
place_more p n =
    ap (λ xs. length (filter p xs)) (range-more n 0)
    ∙ ap length (filter-append p (range_with_len 0 n) ((0 + n) ∷ []))
    ∙ length-append (filter p (range_with_len 0 n)) (filter p ((0 + n) ∷ []))
    ∙ ap (λ k. length (filter p (range_with_len 0 n)) + k) (ap (λ k. length (filter p (k ∷ []))) (let z : 0 + n ≡ n = omega arith in z) ∙ elim (p n) as (λ b. length (cond b (n ∷ []) []) ≡ cond b 1 0) [ true ↦ refl | false ↦ refl ])

module _ (me : ℕ) (steps : Steps) (step : Step) (q : ℕ) where
  abbrev slot_owed : ℕ → Bool
  slot_owed slot = not (own_acked steps q slot)

  abbrev slot_after : ℕ → Bool
  slot_after slot = not (own_acked (step ∷ steps) q slot)

  -- where the step gives the peer nothing and brings no acknowledgement of it
  pub out_same : (link : Link Message) → own_given me (step ∷ steps) q ≡ own_given me steps q → ((slot : ℕ) → own_acked (step ∷ steps) q slot ≡ own_acked steps q slot) → StandsOut me steps q link → StandsOut me (step ∷ steps) q link
  unfolding own_owed
  out_same link same still h = record {
    given = h.given ∙ sym (ap length same);
    owed = λ slot. h.owed slot ∙ sym (λ i. if nat_lt slot (length (same i)) && not (still slot i) then Some (message_in (same i) slot) else None);
    count = h.count ∙ sym (λ i. length (filter (λ slot. not (still slot i)) (range_with_len 0 (length (same i)))));
  }

  last_message : (given : List Held) (h : Held) → message_in (given ++ h ∷ []) (length given) ≡ h.message
  unfolding message_in
  last_message given h = ap (λ x. x.message) (get_or-append_seam given h [] _)

  message_before : (given : List Held) (h : Held) (slot : ℕ) → slot < length given → message_in (given ++ h ∷ []) slot ≡ message_in given slot
  unfolding message_in
  message_before given h slot l = ap (λ x. x.message) (get_or_append_left given (h ∷ []) _ slot l)

  -- where it gives one message more
  pub out_given : (config : Config) → IsOwnAccepted config me steps → (link : Link Message) (h : Held) → own_given me (step ∷ steps) q ≡ own_given me steps q ++ h ∷ [] → ((slot : ℕ) → own_acked (step ∷ steps) q slot ≡ own_acked steps q slot) → StandsOut me steps q link → StandsOut me (step ∷ steps) q (with_given link h.message)
  unfolding own_owed
  out_given config accepted link h more still stands = record {
    given = ap (λ n. n + 1) stands.given ∙ sym (ap length more ∙ length-append (own_given me steps q) (h ∷ []));
    owed = λ slot. get-insert nat_cmp_total link.owed link.given h.message slot ∙ at slot;
    count = len-insert nat_cmp_total link.owed link.given h.message ∙ ap (λ b. cond b (finite.len link.owed) (finite.len link.owed + 1)) none_there ∙ ap (λ n. n + 1) stands.count
        ∙ sym ((λ i. length (filter (λ slot. not (still slot i)) (range_with_len 0 (length (more i))))) ∙ ap (λ n. length (filter slot_owed (range_with_len 0 n))) (length-append (own_given me steps q) (h ∷ [])) ∙ place_more slot_owed (length (own_given me steps q)) ∙ ap (λ b. length (filter slot_owed (range_with_len 0 (length (own_given me steps q)))) + cond b 1 0) (ap not fresh));
  }
    where
      size : ℕ
      size = length (own_given me steps q)

      fresh : own_acked steps q (length (own_given me steps q)) ≡ false
      fresh = false_from_ne_true _ (λ e. let l = acked_given config me steps accepted q (length (own_given me steps q)) e in omega (arith, l))

      none_there : finite.contains_key link.owed link.given ≡ false
      none_there = ap is_some (ap (finite.get link.owed) stands.given ∙ stands.owed size ∙ ap (λ b. if b && not (own_acked steps q size) then Some (message_in (own_given me steps q) size) else None) (le-ltb size size (omega arith)))

      after : ℕ → Option Message
      after slot = if nat_lt slot (size + 1) && not (own_acked steps q slot) then Some (message_in (own_given me steps q ++ h ∷ []) slot) else None

      is_after : (slot : ℕ) → owed_in me (step ∷ steps) q slot ≡ after slot
      is_after slot =
          (λ i. if nat_lt slot (length (more i)) && not (still slot i) then Some (message_in (more i) slot) else None)
          ∙ ap (λ n. if nat_lt slot n && not (own_acked steps q slot) then Some (message_in (own_given me steps q ++ h ∷ []) slot) else None) (length-append (own_given me steps q) (h ∷ []))

      at : (slot : ℕ) → cond (eq_by_cmp nat_cmp slot link.given) (Some h.message) (finite.get link.owed slot) ≡ owed_in me (step ∷ steps) q slot
      at slot =
          ap (λ b. cond b (Some h.message) (finite.get link.owed slot)) (cmp_eq slot link.given ∙ ap (λ n. slot == n) stands.given)
          ∙ ap (cond (slot == size) (Some h.message)) (stands.owed slot)
          ∙ elim (cases_eq slot size) [
            | inl e ↦
                (ap (λ b. cond b (Some h.message) (owed_in me steps q slot)) (eq-eqb slot size e)
                ∙ sym (ap after e ∙ (λ i. if lt-ltb size (size + 1) (omega arith) i && not (fresh i) then Some (last_message (own_given me steps q) h i) else None)))
            | inr e ↦ ap (λ b. cond b (Some h.message) (owed_in me steps q slot)) (ne_eqb slot size e) ∙ beside slot e
          ]
          ∙ sym (is_after slot)
        where
          beside : (slot : ℕ) → slot ≢ size → owed_in me steps q slot ≡ after slot
          beside slot e = elim (cases_lt slot size) [
            | inl l ↦
                (let in_both : nat_lt slot size ≡ nat_lt slot (size + 1) = lt-ltb slot size l ∙ sym (lt-ltb slot (size + 1) (omega (arith, l))) in
                λ i. if in_both i && not (own_acked steps q slot) then Some (sym (message_before (own_given me steps q) h slot l) i) else None)
            | inr l ↦
                (let past : size + 1 ≤ slot = omega (arith, l, e) in
                ap (λ b. if b && not (own_acked steps q slot) then Some (message_in (own_given me steps q) slot) else None) (le-ltb slot size l)
                ∙ sym (ap (λ b. if b && not (own_acked steps q slot) then Some (message_in (own_given me steps q ++ h ∷ []) slot) else None) (le-ltb slot (size + 1) past)))
          ]

  -- where it takes the acknowledgement of a slot that was given
  module _ (slot : ℕ) (same : own_given me (step ∷ steps) q ≡ own_given me steps q) (told : (k : ℕ) → own_acked (step ∷ steps) q k ≡ (own_acked steps q k || (slot == k))) where
    fewer : (p t : ℕ → Bool) (a n : ℕ) → a ≤ slot → slot < a + n → p slot ≡ true → ((k : ℕ) → t k ≡ (p k && not (slot == k))) → length (filter t (range_with_len a n)) + 1 ≡ length (filter p (range_with_len a n))
    fewer p t a zero low high e is = absurd (omega (arith, low, high))
    fewer p t a (suc n) low high e is = elim (cases_eq slot a) [
      | inl here ↦
          (ap (λ b. length (cond b (a ∷ filter t (range_with_len (a + 1) n)) (filter t (range_with_len (a + 1) n))) + 1) (is a ∙ ap (λ b. p a && not b) (eq-eqb slot a here) ∙ and_false (p a))
          ∙ ap (λ xs. length xs + 1) (alike n (a + 1) (omega (arith, here)))
          ∙ (let z : length (filter p (range_with_len (a + 1) n)) + 1 ≡ suc (length (filter p (range_with_len (a + 1) n))) = omega arith in z)
          ∙ sym (ap (λ b. length (cond b (a ∷ filter p (range_with_len (a + 1) n)) (filter p (range_with_len (a + 1) n)))) (ap p (sym here) ∙ e)))
      | inr apart ↦
          (let rest = fewer p t (a + 1) n (omega (arith, low, apart)) (omega (arith, high)) e is in
          ap (λ b. length (cond b (a ∷ filter t (range_with_len (a + 1) n)) (filter t (range_with_len (a + 1) n))) + 1) (is a ∙ ap (λ b. p a && not b) (ne_eqb slot a apart) ∙ and_true (p a))
          ∙ by_test (p a) rest)
    ]
      where
        alike : (m b : ℕ) → slot < b → filter t (range_with_len b m) ≡ filter p (range_with_len b m)
        alike zero b l = refl
        alike (suc m) b l = λ i. cond ((is b ∙ ap (λ c. p b && not c) (ne_eqb slot b (omega (arith, l))) ∙ and_true (p b)) i) (b ∷ alike m (b + 1) (omega (arith, l)) i) (alike m (b + 1) (omega (arith, l)) i)

        by_test : (b : Bool) → length (filter t (range_with_len (a + 1) n)) + 1 ≡ length (filter p (range_with_len (a + 1) n)) →
            length (cond b (a ∷ filter t (range_with_len (a + 1) n)) (filter t (range_with_len (a + 1) n))) + 1 ≡ length (cond b (a ∷ filter p (range_with_len (a + 1) n)) (filter p (range_with_len (a + 1) n)))
        by_test true h = omega (arith, h)
        by_test false h = h

    -- it is owed
    pub out_acked : (link : Link Message) → slot < length (own_given me steps q) → own_acked steps q slot ≡ false → StandsOut me steps q link → StandsOut me (step ∷ steps) q (record { given = link.given; owed = finite.remove link.owed slot })
    unfolding own_owed
    out_acked link inside waiting stands = record {
      given = stands.given ∙ sym (ap length same);
      owed = λ k. get-remove nat_cmp_total link.owed slot k ∙ ap (λ b. cond b None (finite.get link.owed k)) (cmp_eq k slot) ∙ at k;
      count =
          len-remove nat_cmp_total link.owed slot
          ∙ ap (λ b. cond b (finite.len link.owed - 1) (finite.len link.owed)) there
          ∙ ap (λ n. n - 1) (stands.count ∙ sym less)
          ∙ (let z : (length (filter slot_after (range_with_len 0 (length (own_given me steps q)))) + 1) - 1 ≡ length (filter slot_after (range_with_len 0 (length (own_given me steps q)))) = omega arith in z)
          ∙ sym (ap (λ given. length (filter slot_after (range_with_len 0 (length given)))) same);
    }
      where
        there : finite.contains_key link.owed slot ≡ true
        there = ap is_some (stands.owed slot ∙ (λ i. if lt-ltb slot (length (own_given me steps q)) inside i && not (waiting i) then Some (message_in (own_given me steps q) slot) else None))

        neither : (b c : Bool) → not (b || c) ≡ (not b && not c)
        neither true c = refl
        neither false c = refl

        less : length (filter slot_after (range_with_len 0 (length (own_given me steps q)))) + 1 ≡ length (filter slot_owed (range_with_len 0 (length (own_given me steps q))))
        less = fewer slot_owed slot_after 0 (length (own_given me steps q)) (omega arith) (omega (arith, inside)) (ap not waiting) (λ k. ap not (told k) ∙ neither (own_acked steps q k) (slot == k))

        gone : (a b : Bool) (x : Option Message) → cond (a && not (b || true)) x None ≡ None
        gone true true x = refl
        gone true false x = refl
        gone false b x = refl

        is_after : (k : ℕ) → owed_in me (step ∷ steps) q k ≡ (if nat_lt k (length (own_given me steps q)) && not (own_acked steps q k || (slot == k)) then Some (message_in (own_given me steps q) k) else None)
        is_after k = λ i. if nat_lt k (length (same i)) && not (told k i) then Some (message_in (same i) k) else None

        at : (k : ℕ) → cond (k == slot) None (finite.get link.owed k) ≡ owed_in me (step ∷ steps) q k
        at k = elim (cases_eq k slot) [
          | inl e ↦
              (ap (λ b. cond b None (finite.get link.owed k)) (eq-eqb k slot e)
              ∙ sym (is_after k ∙ ap (λ b. if nat_lt k (length (own_given me steps q)) && not (own_acked steps q k || b) then Some (message_in (own_given me steps q) k) else None) (eq-eqb slot k (sym e)) ∙ gone (nat_lt k (length (own_given me steps q))) (own_acked steps q k) (Some (message_in (own_given me steps q) k))))
          | inr e ↦
              (ap (λ b. cond b None (finite.get link.owed k)) (ne_eqb k slot e) ∙ stands.owed k
              ∙ sym (is_after k ∙ ap (λ b. if nat_lt k (length (own_given me steps q)) && not b then Some (message_in (own_given me steps q) k) else None) (ap (λ b. own_acked steps q k || b) (ne_eqb slot k (λ z. e (sym z))) ∙ or_false (own_acked steps q k))))
        ]
