-- Each step that is not refused leaves a node that stands for it, and answers what the definitions say.
use Rattle.std.proofs.Common.{◌≡◌, ◌≢◌, ◌⊎◌, ◌≤◌, ℕ, ◌+◌, ◌-◌, ◌<◌, refl, sym, ◌∙◌, ap, subst, Bool, true, false, not, ◌&&◌, ◌||◌, cond, List, [], ◌∷◌, ◌++◌, length, map, Option, Some, None, inl, inr, arith, length-append}
use Rattle.std.specs.Prelude.{◌*◌, ◌==◌, nat_lt, is_some, slice_index_or, if◌then◌else◌}
use Rattle.std.specs.List.{filter, list_any, prefix_len, range_with_len}
use Rattle.std.specs.Ordering.{nat_cmp}
use Rattle.std.specs.Cmp.{nat_cmp_total}
use Rattle.std.specs.FinSet as set
use Rattle.std.specs.FinSet.{contains-insert}
use Rattle.std.specs.FinMap as finite
use Rattle.std.proofs.lemmas.Bool.{cases_lt, cases_eq, or_cases, or_right, and_from, and_parts, lt-ltb, le-ltb, eqb-true, ltb-true, not-false, false≢true, false_from_ne_true, eq-eqb, ne_eqb}
use Rattle.std.proofs.lemmas.Bool.Decides.{nat_tests}
use Rattle.std.proofs.Math.ListN.{get_or-map}
use Rattle.std.proofs.lemmas.List.{append-nil}
use Rattle.std.proofs.lemmas.List.Folds.{list_any-append}
use Rattle.cast_message.proofs.Tests.{cmp_eq, turned_about}
use Rattle.cast_message.proofs.Booleans.{and_alike, and_false, and_true, or_comm, or_false, or_implied}
use Rattle.cast_message.specs.declared.config.Config.{Config}
use Rattle.cast_message.specs.declared.message.Item.{Item}
use Rattle.cast_message.specs.declared.message.Item.TheVariants.{Close}
use Rattle.cast_message.specs.declared.message.Message.{Message}
use Rattle.cast_message.specs.declared.message.Frame.{Frame}
use Rattle.cast_message.specs.declared.message.FrameBody.{FrameBody}
use Rattle.cast_message.specs.declared.message.FrameBody.TheVariants.{Carry, Took}
use Rattle.cast_model.specs.History.{FirstCopy, has_pair, copy_at, is_carry_of, is_took_of}
use Rattle.cast_model.specs.Delivery.{is_pair, tells_of}
use Rattle.cast_model.specs.Headline.{is_from}
use Rattle.cast_model.specs.Steps.{each, Step, Ordered, Sent, Acknowledged, Arrived, Stopped, Steps, item_of as items_of, own_items, frame_count, frames_in, frame_of, Held, copy_of, held_by_body, held}
use Rattle.cast_model.specs.OwnSteps.{own_live, own_copies, own_given, own_given_copies, own_taken, own_acked, own_knows, own_is_ready, own_next, own_concerned, own_turns, own_deliveries, own_log, own_outcome, own_decisions_of, message_in, messages_from, nothing, is_ignored, is_possible, is_possible_body, IsOwnAccepted}
use Rattle.cast_model.proofs.Members.{Member-list_any, list_any-Member}
use Rattle.cast_model.proofs.OwnGrowth.{brought, held-more, own_copies-more, own_given-more, own_taken-more, own_acked-more}
use Rattle.cast_model.proofs.OwnFronts.{no_messages, own_held_below}
use Rattle.cast_fifo.specs.HeldBack.{held_of, waiting_at}
use Rattle.cast_fifo.specs.HoldsBack.{HoldsBack}
use Rattle.cast_agree.specs.Proposals.{counted_of}
use Rattle.cast_node.specs.Kept.{Kept, link_to, taken_from, knowers_of, holds}
use Rattle.cast_node.specs.Delivering.{first_members}
use Rattle.cast_node.specs.Turns.{told_more, ordered, own_message, spread, unmoved, with_taken, with_acked, taken_up, carried, acknowledged}
use Rattle.cast_model.specs.Shown.{item_of}
use Rattle.cast_node.specs.Stands.{item_at, newest_first, StandsOut, Stands}
use Rattle.cast_node.proofs.Places.{length-slice_set, at_set}
use Rattle.cast_node.proofs.Links.{out_same, out_acked}
use Rattle.cast_node.proofs.HolderSets.{knows_more, told_by, untold, given_held, knows_same, ready_alike, same_pair, pair_none}
use Rattle.cast_node.proofs.Back.{back_same, item_is, some_waiting}
use Rattle.cast_node.proofs.Telling.{ToldRight, told_right, Base, base_of, known_heard, new_heard}

-- a pair that a node holds: of a sender in the group, and of its own numbers only those it ordered
record InRange (config : Config) (me : ℕ) (steps : Steps) (s i : ℕ) : Type 0 where
  sender : s < config.nodes
  number : s ≡ me → i < length (own_items steps)

module _ (config : Config) (me : ℕ) (place : me < config.nodes) where
  held_in : (steps : Steps) → IsOwnAccepted config me steps → (s i : ℕ) → has_pair (own_copies me steps) s i ≡ true → InRange config me steps s i
  unfolding IsOwnAccepted has_pair held is_possible each
  held_in [] accepted s i e = absurd (false≢true e)
  held_in (step ∷ steps) accepted s i e = elim (or_cases (has_pair (own_copies me steps) s i) _ (sym (ap (λ copies. has_pair copies s i) (own_copies-more me step steps) ∙ list_any-append _ (own_copies me steps) (map copy_of (brought me steps step))) ∙ e)) [
    | inl old ↦ (let r = held_in steps accepted.0 s i old in record { sender = r.sender; number = λ z. more step (r.number z) })
    | inr new ↦ by_step step accepted.2 new
  ]
    where
      more : (x : Step) → i < length (own_items steps) → i < length (own_items (x ∷ steps))
      more x l = let n = length-append (own_items steps) (items_of x) in omega (arith, l, n)

      by_carry : (x : Step) (b : Bool) (from : ℕ) (slot : ℕ) (message : Message) → is_possible_body config me steps from (Carry slot message) ≡ true → list_any (λ (copy : FirstCopy). copy.sender == s && copy.number == i) (map copy_of (cond b [] (record { message = message; source = from } ∷ []))) ≡ true → InRange config me (x ∷ steps) s i
      by_carry x true from slot message fine t = absurd (false≢true t)
      by_carry x false from slot message fine t =
          let p = and_parts (message.sender == s) (message.number == i) (sym (or_false (message.sender == s && message.number == i)) ∙ t) in
          let near = and_parts (nat_lt message.sender config.nodes && not (message.sender == me) && nat_lt message.number config.item_limit) (nat_lt slot (config.nodes * config.item_limit)) fine in
          let in_group = and_parts (nat_lt message.sender config.nodes && not (message.sender == me)) (nat_lt message.number config.item_limit) near.0 in
          let q = and_parts (nat_lt message.sender config.nodes) (not (message.sender == me)) in_group.0 in
          let same : message.sender ≡ s = eqb-true message.sender s p.0 in
          record {
            sender = subst (λ y. y < config.nodes) same (ltb-true message.sender config.nodes q.0);
            number = λ z. absurd (false≢true (sym (not-true (message.sender == me) q.1) ∙ eq-eqb message.sender me (same ∙ z)));
          }
        where
          not-true : (b : Bool) → not b ≡ true → b ≡ false
          not-true true h = sym h
          not-true false h = refl

      by_body : (x : Step) (from : ℕ) (body : FrameBody) → is_possible_body config me steps from body ≡ true → list_any (λ (copy : FirstCopy). copy.sender == s && copy.number == i) (map copy_of (held_by_body (held me steps) from body)) ≡ true → InRange config me (x ∷ steps) s i
      by_body x from (Carry slot message) fine t = by_carry x (has_pair (map copy_of (held me steps)) message.sender message.number) from slot message fine t
      by_body x from (Took slot) fine t = absurd (false≢true t)

      by_step : (x : Step) → is_ignored config me steps x ≡ false → list_any (λ (copy : FirstCopy). copy.sender == s && copy.number == i) (map copy_of (brought me steps x)) ≡ true → InRange config me (x ∷ steps) s i
      by_step (Ordered item) fine t =
          let p = and_parts (me == s) (length (own_items steps) == i) (sym (or_false (me == s && length (own_items steps) == i)) ∙ t) in
          let same : me ≡ s = eqb-true me s p.0 in
          let at : length (own_items steps) ≡ i = eqb-true (length (own_items steps)) i p.1 in
          record { sender = subst (λ y. y < config.nodes) same place; number = λ z. (let n = length-append (own_items steps) (item ∷ []) in omega (arith, n, at)) }
      by_step (Arrived f) fine t = by_body (Arrived f) f.from f.body (and_parts (nat_lt f.from config.nodes && not (f.from == me)) _ (not-false _ fine)).1 t
      by_step x fine t = absurd (false≢true t)

module _ (config : Config) (me : ℕ) (steps : Steps) (kept : Kept) (st : Stands config me steps kept) where
  -- a step that brings nothing new
  module _ (step : Step) (accepted : IsOwnAccepted config me (step ∷ steps)) (nothing_new : brought me steps step ≡ []) (items_same : own_items (step ∷ steps) ≡ own_items steps)
      (acked_same : (q slot : ℕ) → own_acked (step ∷ steps) q slot ≡ own_acked steps q slot)
      (knows : (s i r : ℕ) → own_knows me (step ∷ steps) s i r ≡ own_knows me steps s i r) where
    held_same : held me (step ∷ steps) ≡ held me steps
    held_same = held-more me step steps ∙ ap (λ hs. held me steps ++ hs) nothing_new ∙ append-nil (held me steps)

    ready_same : (s i : ℕ) → own_is_ready config me (step ∷ steps) s i ≡ own_is_ready config me steps s i
    ready_same s i = ready_alike config me step steps s i (pair_none me step steps nothing_new s i) (knows s i)

    next_same : (s : ℕ) → own_next config me (step ∷ steps) s ≡ own_next config me steps s
    unfolding own_next
    next_same s = λ k. prefix_len (λ i. ready_same s i k) (range_with_len 0 (length (held_same k)))

    no_turns : (o : Option ℕ) → own_turns config me steps step o ≡ []
    no_turns None = refl
    no_turns (Some s) = ap (messages_from (held me (step ∷ steps)) s (own_next config me steps s)) (next_same s) ∙ no_messages (held me (step ∷ steps)) s (own_next config me steps s)

    pub no_deliveries : own_deliveries config me steps step ≡ []
    unfolding own_deliveries
    no_deliveries = no_turns (own_concerned me steps step)

    log_same : own_log config me (step ∷ steps) ≡ own_log config me steps
    unfolding own_log
    log_same = ap (λ more. own_log config me steps ++ more) no_deliveries ∙ append-nil (own_log config me steps)

    pub stands_same : (live : Bool) (frames : ℕ) (incoming : List (set.FinSet nat_cmp)) → live ≡ own_live (step ∷ steps) → frames ≡ frame_count (step ∷ steps) → length incoming ≡ config.nodes →
        ((r slot : ℕ) → r < config.nodes → set.contains (slice_index_or incoming r set.empty) slot ≡ own_taken (step ∷ steps) r slot) →
        Stands config me (step ∷ steps) (record kept { live = live; frames = frames; incoming = incoming })
    stands_same live frames incoming live_is frames_is size taken_is = record {
      accepted = accepted;
      place = st.place;
      same_config = st.same_config;
      same_me = st.same_me;
      live = live_is;
      frames = frames_is;
      stream = st.stream ∙ sym items_same;
      peers_out = st.peers_out;
      out = λ q l e. out_same me steps step q (link_to kept q) (own_given-more me step steps q ∙ ap (λ hs. own_given me steps q ++ filter (λ (x : Held). not (x.message.sender == q) && not (x.source == q)) hs) nothing_new ∙ append-nil (own_given me steps q)) (acked_same q) (st.out q l e);
      peers_in = size;
      taken = taken_is;
      senders_back = st.senders_back;
      holds_back = λ s l. back_same config me step steps s (held_of kept.deliveries.hold_back s) (λ k. ap (λ hs. item_at hs s k) held_same) (ready_same s) (st.holds_back s l);
      senders_known = st.senders_known;
      knows = knows_same config me step steps kept.deliveries.knowers st.knows (pair_none me step steps nothing_new) knows;
      senders_delivered = st.senders_delivered;
      delivers = λ s l. st.delivers s l ∙ ap (λ log. map item_of (filter (is_from s) log)) (sym log_same);
      agrees = st.agrees ∙ ap (λ log. counted_of (config.nodes - config.faults) (newest_first [] log)) (sym log_same);
    }

    pub outcome_nothing : own_outcome config me steps step ≡ nothing
    unfolding own_outcome own_decisions_of
    outcome_nothing = ap (λ news. record { deliveries = news; decisions = own_decisions_of config (own_log config me steps) news }) no_deliveries

  -- a step without a frame tells nothing
  no_ack : (step : Step) → frame_of step ≡ [] → (q slot : ℕ) → own_acked (step ∷ steps) q slot ≡ own_acked steps q slot
  no_ack step e q slot = own_acked-more me step steps q slot ∙ ap (λ fs. own_acked steps q slot || list_any (λ (frame : Frame). frame.from == q && is_took_of slot frame.body) fs) e ∙ or_false (own_acked steps q slot)

  no_take : (step : Step) → frame_of step ≡ [] → (r slot : ℕ) → own_taken (step ∷ steps) r slot ≡ own_taken steps r slot
  no_take step e r slot = own_taken-more me step steps r slot ∙ ap (λ fs. own_taken steps r slot || list_any (λ (frame : Frame). frame.from == r && is_carry_of slot frame.body) fs) e ∙ or_false (own_taken steps r slot)

  no_news : (step : Step) → IsOwnAccepted config me (step ∷ steps) → frame_of step ≡ [] → (s i r : ℕ) → own_knows me (step ∷ steps) s i r ≡ own_knows me steps s i r
  no_news step accepted e s i r = knows_more config me step steps accepted s i r ∙ ap (λ fs. own_knows me steps s i r || told_by me steps s i r fs) e ∙ or_false (own_knows me steps s i r)

  -- frames made, and the end
  pub quiet_stands : (step : Step) → IsOwnAccepted config me (step ∷ steps) → brought me steps step ≡ [] → own_items (step ∷ steps) ≡ own_items steps → frame_of step ≡ [] → (live : Bool) (frames : ℕ) → live ≡ own_live (step ∷ steps) → frames ≡ frame_count (step ∷ steps) →
      Stands config me (step ∷ steps) (record kept { live = live; frames = frames })
  quiet_stands step accepted nothing_new items e live frames live_is frames_is =
      stands_same step accepted nothing_new items (no_ack step e) (no_news step accepted e) live frames kept.incoming live_is frames_is st.peers_in (λ r slot l. st.taken r slot l ∙ sym (no_take step e r slot))

  pub sent_stands : (to slot : ℕ) → IsOwnAccepted config me (Sent to slot ∷ steps) → Stands config me (Sent to slot ∷ steps) (record kept { frames = kept.frames + 1 })
  unfolding own_live frame_count each
  sent_stands to slot accepted = quiet_stands (Sent to slot) accepted refl (append-nil (own_items steps)) refl kept.live (kept.frames + 1) st.live (ap (λ n. n + 1) st.frames)

  pub acknowledged_stands : (to slot : ℕ) → IsOwnAccepted config me (Acknowledged to slot ∷ steps) → Stands config me (Acknowledged to slot ∷ steps) (record kept { frames = kept.frames + 1 })
  unfolding own_live frame_count each
  acknowledged_stands to slot accepted = quiet_stands (Acknowledged to slot) accepted refl (append-nil (own_items steps)) refl kept.live (kept.frames + 1) st.live (ap (λ n. n + 1) st.frames)

  pub stopped_stands : IsOwnAccepted config me (Stopped ∷ steps) → Stands config me (Stopped ∷ steps) (record kept { live = false })
  unfolding own_live frame_count each
  stopped_stands accepted = quiet_stands Stopped accepted refl (append-nil (own_items steps)) refl false kept.frames refl (st.frames ∙ (let z : frame_count steps ≡ frame_count steps + 0 = omega arith in z))

turn : (a b c d : ℕ) → (b == a && d == c) ≡ (a == b && c == d)
turn a b c d = grind (arith, nat_tests)

-- a slot that was acknowledged was told of
told_before : (me : ℕ) (steps : Steps) (from slot : ℕ) → own_acked steps from slot ≡ true → (s i x : ℕ) → (from == x && is_pair (copy_at (own_given_copies me steps x) slot) s i) ≡ true → own_knows me steps s i x ≡ true
unfolding own_acked own_knows
told_before me steps from slot before s i x e =
    let p = and_parts (from == x) _ e in
    let found = Member-list_any (λ (frame : Frame). frame.from == from && is_took_of slot frame.body) (frames_in steps) before in
    let q = and_parts (found.0.from == from) _ found.2 in
    or_right (x == me || x == s) _ (list_any-Member (λ (frame : Frame). frame.from == x && tells_of (own_given_copies me steps x) s i frame.body) found.0 (frames_in steps) found.1
    (and_from _ _ (eq-eqb found.0.from x (eqb-true found.0.from from q.0 ∙ eqb-true from x p.0)) (by_body found.0.body q.1 p.1)))
  where
    by_body : (body : FrameBody) → is_took_of slot body ≡ true → is_pair (copy_at (own_given_copies me steps x) slot) s i ≡ true → tells_of (own_given_copies me steps x) s i body ≡ true
    by_body (Carry place message) t u = absurd (false≢true t)
    by_body (Took place) t u = ap (λ k. is_pair (copy_at (own_given_copies me steps x) k) s i) (eqb-true place slot t) ∙ u

took_base : (config : Config) (me : ℕ) (steps : Steps) (kept : Kept) → Stands config me steps kept → (from seq to slot : ℕ) → IsOwnAccepted config me (Arrived (record { from = from; seq = seq; to = to; body = Took slot }) ∷ steps) → length (with_acked kept from slot).outgoing ≡ config.nodes → Base config me (Arrived (record { from = from; seq = seq; to = to; body = Took slot })) steps (with_acked kept from slot)
unfolding own_live frame_count each
took_base config me steps kept st from seq to slot accepted peers =
    let step : Step = Arrived (record { from = from; seq = seq; to = to; body = Took slot }) in
    base_of config me step steps kept st accepted refl (let z : frame_count steps + 0 ≡ frame_count steps = omega arith in z) kept.stream (with_acked kept from slot).outgoing kept.incoming (st.stream ∙ sym (append-nil (own_items steps)))
    peers st.peers_in (λ r k l. st.taken r k l ∙ sym (own_taken-more me step steps r k ∙ ap (λ c. own_taken steps r k || (c || false)) (and_false (from == r)) ∙ or_false (own_taken steps r k)))

module _ (config : Config) (me : ℕ) (steps : Steps) (kept : Kept) (st : Stands config me steps kept) where
  -- a pair is held that waits, or had its turn
  holds_is : (s i : ℕ) → s < config.nodes → holds kept s i ≡ has_pair (own_copies me steps) s i
  holds_is s i l = by_place (cases_lt i (held_of kept.deliveries.hold_back s).next)
    where
      back : HoldsBack (item_at (held me steps) s) (own_is_ready config me steps s) (held_of kept.deliveries.hold_back s)
      back = st.holds_back s l

      by_place : (i < (held_of kept.deliveries.hold_back s).next) ⊎ ((held_of kept.deliveries.hold_back s).next ≤ i) → holds kept s i ≡ has_pair (own_copies me steps) s i
      by_place (inl below) = ap (λ b. b || is_some (waiting_at (held_of kept.deliveries.hold_back s).waiting i)) (lt-ltb i (held_of kept.deliveries.hold_back s).next below) ∙ sym (own_held_below config me steps s i (back.below i below))
      by_place (inr past) =
          (λ k. le-ltb i (held_of kept.deliveries.hold_back s).next past k || is_some (back.waits i past k))
          ∙ some_waiting (item_at (held me steps) s i) (own_is_ready config me steps s i)
          ∙ item_is (held me steps) s i

  -- what was known of a pair that wasn't held: nothing but what needs no telling
  unknown : (s i : ℕ) → has_pair (own_copies me steps) s i ≡ false → (x : ℕ) → own_knows me steps s i x ≡ (x == me || x == s)
  unfolding own_knows
  unknown s i fresh x = ap (λ c. (x == me || x == s) || c) (untold config me steps st.accepted s i x fresh) ∙ or_false (x == me || x == s)

  -- an item of its own
  module _ (item : Item) (accepted : IsOwnAccepted config me (Ordered item ∷ steps)) where
    abbrev own : Held
    own = record { message = record { sender = kept.me; number = length kept.stream; item = item }; source = kept.me }

    own_new : brought me steps (Ordered item) ≡ own ∷ []
    own_new = λ k. record { message = record { sender = sym st.same_me k; number = length (sym st.stream k); item = item }; source = sym st.same_me k } ∷ []

    own_fresh : has_pair (own_copies me steps) kept.me (length kept.stream) ≡ false
    own_fresh = (λ k. has_pair (own_copies me steps) (st.same_me k) (length (st.stream k))) ∙ false_from_ne_true _ (λ e.
        let r = held_in config me st.place steps st.accepted me (length (own_items steps)) e in
        let l = r.number refl in omega (arith, l))

    abbrev own_kept : Kept
    own_kept = record kept { stream = kept.stream ++ item ∷ [] }

    own_base : Base config me (Ordered item) steps own_kept
    unfolding own_live frame_count each
    own_base = base_of config me (Ordered item) steps kept st accepted refl (let z : frame_count steps + 0 ≡ frame_count steps = omega arith in z) own_kept.stream kept.outgoing kept.incoming (ap (λ items. items ++ item ∷ []) st.stream)
        st.peers_out st.peers_in (λ r slot l. st.taken r slot l ∙ sym (no_take config me steps kept st (Ordered item) refl r slot))

    pub ordered_right : ToldRight config me (Ordered item) steps (ordered kept item)
    ordered_right = told_right config me (Ordered item) steps (spread own_kept (own_message kept item) kept.me) kept.me (length kept.stream) (first_members kept.me kept.me kept.me)
        (new_heard config me (Ordered item) steps own_kept own_base own own_new in_group in_group own_fresh here
        (λ x k e y. no_news config me steps kept st (Ordered item) accepted refl x k y)
        (ap (λ x. Some x) (sym st.same_me))
        (no_ack config me steps kept st (Ordered item) refl)
        st.out)
      where
        in_group : kept.me < config.nodes
        in_group = subst (λ y. y < config.nodes) (sym st.same_me) st.place

        here : (x : ℕ) → own_knows me (Ordered item ∷ steps) kept.me (length kept.stream) x ≡ ((x == me || x == kept.me) || (kept.me == x))
        here x = no_news config me steps kept st (Ordered item) accepted refl kept.me (length kept.stream) x ∙ unknown kept.me (length kept.stream) own_fresh x ∙ turn x me kept.me
          where
            turn : (a b c : ℕ) → (a == b || a == c) ≡ ((a == b || a == c) || (c == a))
            turn a b c = grind (arith, nat_tests)

  -- a Carry
  module _ (from seq to slot : ℕ) (message : Message) (accepted : IsOwnAccepted config me (Arrived (record { from = from; seq = seq; to = to; body = Carry slot message }) ∷ steps)) (from_in : from < config.nodes) (sender_in_group : message.sender < config.nodes) where
    abbrev carry : Step
    carry = Arrived (record { from = from; seq = seq; to = to; body = Carry slot message })

    carry_taken : (r k : ℕ) → r < config.nodes → set.contains (taken_from (with_taken kept from slot) r) k ≡ own_taken (carry ∷ steps) r k
    carry_taken r k l =
        ap (λ s. set.contains s k) (at_set kept.incoming from r (set.insert (taken_from kept from) slot) set.empty (subst (λ n. from < n) (sym st.peers_in) from_in))
        ∙ elim (cases_eq r from) [
          | inl e ↦
              (ap (λ c. set.contains (cond c (set.insert (taken_from kept from) slot) (taken_from kept r)) k) (eq-eqb r from e)
              ∙ contains-insert nat_cmp_total (taken_from kept from) slot k
              ∙ (λ i. cmp_eq k slot i || set.contains (taken_from kept (sym e i)) k)
              ∙ ap (λ c. (k == slot) || c) (st.taken r k l)
              ∙ or_comm (k == slot) (own_taken steps r k)
              ∙ ap (λ c. own_taken steps r k || c) (sym (or_false (k == slot)))
              ∙ (λ i. own_taken steps r k || ((sym (eq-eqb from r (sym e)) i && turned_about k slot i) || false)))
          | inr e ↦
              (ap (λ c. set.contains (cond c (set.insert (taken_from kept from) slot) (taken_from kept r)) k) (ne_eqb r from e)
              ∙ st.taken r k l
              ∙ sym (or_false (own_taken steps r k))
              ∙ (λ i. own_taken steps r k || ((sym (ne_eqb from r (λ z. e (sym z))) i && (slot == k)) || false)))
        ]
        ∙ sym (own_taken-more me carry steps r k)

    carry_acks : (q k : ℕ) → own_acked (carry ∷ steps) q k ≡ own_acked steps q k
    carry_acks q k = own_acked-more me carry steps q k ∙ ap (λ c. own_acked steps q k || (c || false)) (and_false (from == q)) ∙ or_false (own_acked steps q k)

    carry_knows : (s i x : ℕ) → own_knows me (carry ∷ steps) s i x ≡ (own_knows me steps s i x || ((from == x && (message.sender == s && message.number == i)) || false))
    carry_knows s i x = knows_more config me carry steps accepted s i x

    carry_other : (s i : ℕ) → same_pair message.sender message.number s i ≡ false → (x : ℕ) → own_knows me (carry ∷ steps) s i x ≡ own_knows me steps s i x
    carry_other s i e x = carry_knows s i x ∙ ap (λ c. own_knows me steps s i x || ((from == x && c) || false)) (turn s message.sender i message.number ∙ e) ∙ ap (λ c. own_knows me steps s i x || (c || false)) (and_false (from == x)) ∙ or_false (own_knows me steps s i x)

    itself : (message.sender == message.sender && message.number == message.number) ≡ true
    itself = λ k. eq-eqb message.sender message.sender refl k && eq-eqb message.number message.number refl k

    carry_base : Base config me carry steps (with_taken kept from slot)
    unfolding own_live frame_count each
    carry_base =
        base_of config me carry steps kept st accepted refl (let z : frame_count steps + 0 ≡ frame_count steps = omega arith in z) kept.stream kept.outgoing (with_taken kept from slot).incoming (st.stream ∙ sym (append-nil (own_items steps)))
        st.peers_out (length-slice_set kept.incoming from _ ∙ st.peers_in) carry_taken

    -- of a pair that is held
    carry_known : has_pair (own_copies me steps) message.sender message.number ≡ true → ToldRight config me carry steps (told_more (with_taken kept from slot) message.sender message.number from)
    carry_known pair = told_right config me carry steps (with_taken kept from slot) message.sender message.number (set.insert (knowers_of kept message.sender message.number) from)
        (known_heard config me carry steps (with_taken kept from slot) carry_base message.sender message.number from nothing_new sender_in_group from_in pair here carry_other refl
        (λ q l e. out_same me steps carry q (link_to kept q) (own_given-more me carry steps q ∙ ap (λ hs. own_given me steps q ++ filter (λ (x : Held). not (x.message.sender == q) && not (x.source == q)) hs) nothing_new ∙ append-nil (own_given me steps q)) (carry_acks q) (st.out q l e)))
      where
        nothing_new : brought me steps carry ≡ []
        nothing_new = ap (λ c. if c then [] else record { message = message; source = from } ∷ []) pair

        here : (x : ℕ) → own_knows me (carry ∷ steps) message.sender message.number x ≡ (own_knows me steps message.sender message.number x || (from == x))
        here x = carry_knows message.sender message.number x ∙ ap (λ c. own_knows me steps message.sender message.number x || c) (ap (λ c. (from == x && c) || false) itself ∙ or_false (from == x && true) ∙ and_true (from == x))

    -- of one that isn't
    carry_new : has_pair (own_copies me steps) message.sender message.number ≡ false → ToldRight config me carry steps (taken_up (with_taken kept from slot) message from)
    carry_new fresh = told_right config me carry steps (spread (with_taken kept from slot) message from) message.sender message.number (first_members kept.me message.sender from)
        (new_heard config me carry steps (with_taken kept from slot) carry_base h new sender_in_group from_in fresh here carry_other refl carry_acks st.out)
      where
        h : Held
        h = record { message = message; source = from }

        new : brought me steps carry ≡ h ∷ []
        new = ap (λ c. if c then [] else record { message = message; source = from } ∷ []) fresh

        here : (x : ℕ) → own_knows me (carry ∷ steps) message.sender message.number x ≡ ((x == me || x == message.sender) || (from == x))
        here x = carry_knows message.sender message.number x ∙ (λ k. unknown message.sender message.number fresh x k || (ap (λ c. (from == x && c) || false) itself ∙ or_false (from == x && true) ∙ and_true (from == x)) k)

    pub carried_right : ToldRight config me carry steps (carried (with_taken kept from slot) from message)
    carried_right = by_test (holds kept message.sender message.number) (sym (holds_is message.sender message.number sender_in_group))
      where
        by_test : (b : Bool) → has_pair (own_copies me steps) message.sender message.number ≡ b → ToldRight config me carry steps (if b then told_more (with_taken kept from slot) message.sender message.number from else taken_up (with_taken kept from slot) message from)
        by_test true e = carry_known e
        by_test false e = carry_new e

  -- a Took of a slot that was given
  module _ (from seq to slot : ℕ) (accepted : IsOwnAccepted config me (Arrived (record { from = from; seq = seq; to = to; body = Took slot }) ∷ steps)) (from_in : from < config.nodes) (other_node : from ≢ me) (inside : slot < length (own_given me steps from)) where
    abbrev took : Step
    took = Arrived (record { from = from; seq = seq; to = to; body = Took slot })

    abbrev copy : FirstCopy
    copy = copy_at (own_given_copies me steps from) slot

    abbrev message : Message
    message = message_in (own_given me steps from) slot

    copy_is : (copy.sender ≡ message.sender) × (copy.number ≡ message.number)
    unfolding copy_at message_in
    copy_is =
        let e = get_or-map copy_of (own_given me steps from) slot (record { message = record { sender = 0; number = 0; item = Close }; source = 0 }) in
        (ap (λ (c : FirstCopy). c.sender) e, ap (λ (c : FirstCopy). c.number) e)

    held_pair : has_pair (own_copies me steps) message.sender message.number ≡ true
    held_pair = (λ k. has_pair (own_copies me steps) (sym copy_is.0 k) (sym copy_is.1 k)) ∙ given_held config me steps from slot inside

    sender_in : message.sender < config.nodes
    sender_in = (held_in config me st.place steps st.accepted message.sender message.number held_pair).sender

    took_acks : (q k : ℕ) → own_acked (took ∷ steps) q k ≡ (own_acked steps q k || ((from == q && slot == k) || false))
    took_acks q k = own_acked-more me took steps q k

    took_takes : (r k : ℕ) → own_taken (took ∷ steps) r k ≡ own_taken steps r k
    took_takes r k = own_taken-more me took steps r k ∙ ap (λ c. own_taken steps r k || (c || false)) (and_false (from == r)) ∙ or_false (own_taken steps r k)

    took_knows : (s i x : ℕ) → own_knows me (took ∷ steps) s i x ≡ (own_knows me steps s i x || ((from == x && is_pair (copy_at (own_given_copies me steps x) slot) s i) || false))
    took_knows s i x = knows_more config me took steps accepted s i x

    -- it tells of that pair, by that peer
    tells : (s i x : ℕ) → (from == x && is_pair (copy_at (own_given_copies me steps x) slot) s i) ≡ (from == x && same_pair message.sender message.number s i)
    tells s i x = and_alike (from == x) _ _ (λ e.
        ap (λ y. is_pair (copy_at (own_given_copies me steps y) slot) s i) (sym (eqb-true from x e))
        ∙ (λ k. copy_is.0 k == s && copy_is.1 k == i)
        ∙ turn s message.sender i message.number)

    given_same : (q : ℕ) → own_given me (took ∷ steps) q ≡ own_given me steps q
    given_same q = own_given-more me took steps q ∙ append-nil (own_given me steps q)

    -- it was acknowledged before
    took_again : own_acked steps from slot ≡ true → ToldRight config me took steps (unmoved kept)
    unfolding own_live frame_count each
    took_again before = record {
      stands = stands_same config me steps kept st took accepted refl (append-nil (own_items steps)) acked_same knows kept.live kept.frames kept.incoming st.live (st.frames ∙ (let z : frame_count steps ≡ frame_count steps + 0 = omega arith in z)) st.peers_in (λ r k l. st.taken r k l ∙ sym (took_takes r k));
      outcome = sym (outcome_nothing config me steps kept st took accepted refl (append-nil (own_items steps)) acked_same knows);
    }
      where
        kept_so : (b c : Bool) → (c ≡ true → b ≡ true) → (b || (c || false)) ≡ b
        kept_so b c h = ap (λ d. b || d) (or_false c) ∙ or_implied b c h

        acked_same : (q k : ℕ) → own_acked (took ∷ steps) q k ≡ own_acked steps q k
        acked_same q k = took_acks q k ∙ kept_so (own_acked steps q k) (from == q && slot == k) (λ e. let p = and_parts (from == q) (slot == k) e in (λ j. own_acked steps (sym (eqb-true from q p.0) j) (sym (eqb-true slot k p.1) j)) ∙ before)

        knows : (s i x : ℕ) → own_knows me (took ∷ steps) s i x ≡ own_knows me steps s i x
        knows s i x = took_knows s i x ∙ kept_so (own_knows me steps s i x) (from == x && is_pair (copy_at (own_given_copies me steps x) slot) s i) (λ e. told_before me steps from slot before s i x e)

    -- it was owed
    took_first : own_acked steps from slot ≡ false → ToldRight config me took steps (told_more (with_acked kept from slot) message.sender message.number from)
    took_first waiting = told_right config me took steps (with_acked kept from slot) message.sender message.number (set.insert (knowers_of kept message.sender message.number) from)
        (known_heard config me took steps (with_acked kept from slot) base message.sender message.number from refl sender_in from_in held_pair here other (ap (λ x. Some x) copy_is.0) out)
      where
        here : (x : ℕ) → own_knows me (took ∷ steps) message.sender message.number x ≡ (own_knows me steps message.sender message.number x || (from == x))
        here x = took_knows message.sender message.number x ∙ ap (λ c. own_knows me steps message.sender message.number x || (c || false)) (tells message.sender message.number x ∙ (λ k. from == x && (eq-eqb message.sender message.sender refl k && eq-eqb message.number message.number refl k)))
            ∙ ap (λ c. own_knows me steps message.sender message.number x || c) (or_false (from == x && true) ∙ and_true (from == x))

        other : (s i : ℕ) → same_pair message.sender message.number s i ≡ false → (x : ℕ) → own_knows me (took ∷ steps) s i x ≡ own_knows me steps s i x
        other s i e x = took_knows s i x ∙ ap (λ c. own_knows me steps s i x || (c || false)) (tells s i x ∙ ap (λ c. from == x && c) e ∙ and_false (from == x)) ∙ or_false (own_knows me steps s i x)

        base : Base config me took steps (with_acked kept from slot)
        base = took_base config me steps kept st from seq to slot accepted (length-slice_set kept.outgoing from _ ∙ st.peers_out)

        out : (q : ℕ) → q < config.nodes → q ≢ me → StandsOut me (took ∷ steps) q (link_to (with_acked kept from slot) q)
        out q l e = subst (StandsOut me (took ∷ steps) q) (sym (at_set kept.outgoing from q (record { given = (link_to kept from).given; owed = finite.remove (link_to kept from).owed slot }) (record { given = 0; owed = finite.empty }) (subst (λ n. from < n) (sym st.peers_out) from_in)))
            (elim (cases_eq q from) [
              | inl same ↦ subst (λ c. StandsOut me (took ∷ steps) q (cond c (record { given = (link_to kept from).given; owed = finite.remove (link_to kept from).owed slot }) (link_to kept q))) (sym (eq-eqb q from same))
                  (subst (λ y. StandsOut me (took ∷ steps) y (record { given = (link_to kept from).given; owed = finite.remove (link_to kept from).owed slot })) (sym same)
                  (out_acked me steps took from slot (given_same from) (λ k. took_acks from k ∙ (λ j. own_acked steps from k || ((eq-eqb from from refl j && (slot == k)) || false)) ∙ ap (λ c. own_acked steps from k || c) (or_false (slot == k))) (link_to kept from) inside waiting (st.out from from_in other_node)))
              | inr differs ↦ subst (λ c. StandsOut me (took ∷ steps) q (cond c (record { given = (link_to kept from).given; owed = finite.remove (link_to kept from).owed slot }) (link_to kept q))) (sym (ne_eqb q from differs))
                  (out_same me steps took q (link_to kept q) (given_same q) (λ k. took_acks q k ∙ ap (λ c. own_acked steps q k || ((c && (slot == k)) || false)) (ne_eqb from q (λ z. differs (sym z))) ∙ or_false (own_acked steps q k)) (st.out q l e))
            ])

    pub acknowledged_right : ToldRight config me took steps (acknowledged kept from slot (finite.get (link_to kept from).owed slot))
    acknowledged_right = subst (λ o. ToldRight config me took steps (acknowledged kept from slot o)) (sym ((st.out from from_in other_node).owed slot)) (by_test (nat_lt slot (length (own_given me steps from))) (lt-ltb slot (length (own_given me steps from)) inside) (own_acked steps from slot) refl)
      where
        by_test : (b : Bool) → b ≡ true → (c : Bool) → own_acked steps from slot ≡ c → ToldRight config me took steps (acknowledged kept from slot (if b && not c then Some (message_in (own_given me steps from) slot) else None))
        by_test true t true e = took_again e
        by_test true t false e = took_first e
        by_test false t c e = absurd (false≢true t)
