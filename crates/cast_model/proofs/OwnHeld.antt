-- What a node's own steps tell of what it holds, gives and took is what the history of the group tells of it.
use Rattle.std.proofs.Common.{◌≡◌, ℕ, ◌<◌, refl, sym, ◌∙◌, ap, subst, Bool, true, false, not, ◌&&◌, ◌||◌, cond, List, [], ◌∷◌, ◌++◌, length, map, get_or, Option, Some, None, inl, inr, ◌⊎◌}
use Rattle.std.specs.Prelude.{◌==◌, slice_get, slice_index_or}
use Rattle.std.specs.List.{filter, list_any}
use Rattle.std.proofs.lemmas.List.{get_or_append_left}
use Rattle.std.proofs.lemmas.Bool.{eq-eqb, eqb-true, cond-true}
use Rattle.cast_message.specs.declared.config.Config.{Config}
use Rattle.cast_message.specs.declared.event.Event.{Event}
use Rattle.cast_message.specs.declared.event.Event.TheVariants.{Order, Send, Ack, Arrive, Crash}
use Rattle.cast_message.specs.declared.message.Item.{Item}
use Rattle.cast_message.specs.declared.message.Item.TheVariants.{Close}
use Rattle.cast_message.specs.declared.message.Message.{Message}
use Rattle.cast_message.specs.declared.message.Frame.{Frame}
use Rattle.cast_message.specs.declared.message.FrameBody.{FrameBody}
use Rattle.cast_message.specs.declared.message.FrameBody.TheVariants.{Carry, Took}
use Rattle.cast_model.specs.History.{History, FirstCopy, stream, items_ordered, is_live, is_crash_of, has_pair, first, frames, frame_arriving, given, given_of, message_of, taken, acked, is_carry_of, is_took_of}
use Rattle.cast_model.specs.Delivery.{concerned, concerned_by, is_node}
use Rattle.cast_model.specs.Replies.{IsAccepted}
use Rattle.cast_model.specs.Steps.{Step, Ordered, Sent, Acknowledged, Arrived, Stopped, step_by, step_of, steps_of, own_items, Held, copy_of, held_by_body, held_by, held}
use Rattle.cast_model.specs.OwnSteps.{is_stop, own_live, own_given, own_given_copies, own_taken, own_acked, IsStep, orders, sends, acknowledges, takes, stops}
use Rattle.cast_model.proofs.Members.{Member, Member-append, Member-one, Member-if_not, Member-slice_get}
use Rattle.cast_model.proofs.Growth.{stream-more}
use Rattle.cast_model.proofs.Sound.{sound, BodyOk, CarryOk}
use Rattle.cast_model.proofs.RoundSpreads.{Member-map}
use Rattle.cast_model.proofs.Projected.{own_items-steps_of, frames_in-steps_of, held-steps_of}

stops_as : (past : History) (q : ℕ) → list_any is_stop (steps_of past q) ≡ list_any (is_crash_of q) past
unfolding steps_of frame_arriving
stops_as [] q = refl
stops_as (event ∷ past) q = by_event event (stops_as past q)
  where
    by_test : (b : Bool) (step : Step) → is_stop step ≡ false → list_any is_stop (steps_of past q) ≡ list_any (is_crash_of q) past → list_any is_stop (cond b (step ∷ []) [] ++ steps_of past q) ≡ list_any (is_crash_of q) past
    by_test true step none ih = ap (λ x. x || list_any is_stop (steps_of past q)) none ∙ ih
    by_test false step none ih = ih

    by_crash : (b : Bool) → list_any is_stop (steps_of past q) ≡ list_any (is_crash_of q) past → list_any is_stop (cond b (Stopped ∷ []) [] ++ steps_of past q) ≡ (b || list_any (is_crash_of q) past)
    by_crash true ih = refl
    by_crash false ih = ih

    by_frame : (o : Option Frame) → list_any is_stop (steps_of past q) ≡ list_any (is_crash_of q) past → list_any is_stop (step_by o q ++ steps_of past q) ≡ list_any (is_crash_of q) past
    by_frame None ih = ih
    by_frame (Some frame) ih = by_test (frame.to == q) (Arrived frame) refl ih

    by_event : (event : Event) → list_any is_stop (steps_of past q) ≡ list_any (is_crash_of q) past → list_any is_stop (step_of (frames past) event q ++ steps_of past q) ≡ (is_crash_of q event || list_any (is_crash_of q) past)
    by_event (Order node item) ih = by_test (node == q) (Ordered item) refl ih
    by_event (Send from to slot) ih = by_test (from == q) (Sent to slot) refl ih
    by_event (Ack from to slot) ih = by_test (from == q) (Acknowledged to slot) refl ih
    by_event (Arrive from seq) ih = by_frame (slice_get (frames past from) seq) ih
    by_event (Crash node) ih = by_crash (node == q) ih

-- it lives as the group says
pub own_live-steps_of : (past : History) (q : ℕ) → own_live (steps_of past q) ≡ is_live past q
unfolding own_live is_live
own_live-steps_of past q = ap not (stops_as past q)

filter-copies : (test : FirstCopy → Bool) (hs : List Held) → map copy_of (filter (λ h. test (copy_of h)) hs) ≡ filter test (map copy_of hs)
filter-copies test [] = refl
filter-copies test (h ∷ hs) = by_test (test (copy_of h)) (filter-copies test hs)
  where
    by_test : (b : Bool) → map copy_of (filter (λ x. test (copy_of x)) hs) ≡ filter test (map copy_of hs) → map copy_of (cond b (h ∷ filter (λ x. test (copy_of x)) hs) (filter (λ x. test (copy_of x)) hs)) ≡ cond b (copy_of h ∷ filter test (map copy_of hs)) (filter test (map copy_of hs))
    by_test true ih = ap (λ copies. copy_of h ∷ copies) ih
    by_test false ih = ih

-- it gives what the group says that it gives
pub own_given-steps_of : (past : History) (me q : ℕ) → own_given_copies me (steps_of past me) q ≡ given past me q
unfolding own_given given given_of
own_given-steps_of past me q =
    filter-copies (λ copy. not (copy.sender == q) && not (copy.source == q)) (held me (steps_of past me)) ∙ ap (λ copies. given_of copies q) (held-steps_of past me)

pub own_taken-steps_of : (past : History) (me r slot : ℕ) → own_taken (steps_of past me) r slot ≡ taken past r me slot
unfolding own_taken taken
own_taken-steps_of past me r slot = ap (λ all. list_any (λ frame. frame.from == r && is_carry_of slot frame.body) all) (frames_in-steps_of past me)

pub own_acked-steps_of : (past : History) (me r slot : ℕ) → own_acked (steps_of past me) r slot ≡ acked past me r slot
unfolding own_acked acked
own_acked-steps_of past me r slot = ap (λ all. list_any (λ frame. frame.from == r && is_took_of slot frame.body) all) (frames_in-steps_of past me)

-- a step of the node is one more of its steps
module _ (past : History) (me : ℕ) where
  pub step_is : (event : Event) (step : Step) → IsStep past me event step → step_of (frames past) event me ≡ step ∷ []
  unfolding frame_arriving
  step_is event step (orders item) = cond-true (me == me) (Ordered item ∷ []) [] (eq-eqb me me refl)
  step_is event step (sends to slot) = cond-true (me == me) (Sent to slot ∷ []) [] (eq-eqb me me refl)
  step_is event step (acknowledges to slot) = cond-true (me == me) (Acknowledged to slot ∷ []) [] (eq-eqb me me refl)
  step_is event step (takes from seq frame at to) = ap (λ o. step_by o me) at ∙ cond-true (frame.to == me) (Arrived frame ∷ []) [] (eq-eqb frame.to me to)
  step_is event step stops = cond-true (me == me) (Stopped ∷ []) [] (eq-eqb me me refl)

  pub steps_after : (event : Event) (step : Step) → IsStep past me event step → steps_of (event ∷ past) me ≡ step ∷ steps_of past me
  unfolding steps_of
  steps_after event step is = ap (λ more. more ++ steps_of past me) (step_is event step is)

  -- an event that is no step of the node leaves its steps as they were, and what it delivered
  pub record Elsewhere (event : Event) : Type 0 where
    pub no_step : step_of (frames past) event me ≡ []
    pub not_concerned : is_node (concerned past event) me ≡ false

  pub steps_same : (event : Event) → Elsewhere event → steps_of (event ∷ past) me ≡ steps_of past me
  unfolding steps_of
  steps_same event e = ap (λ more. more ++ steps_of past me) e.no_step

  Mine : Event → Type 0
  Mine event = (step : Step) × IsStep past me event step

  pub step_cases : (event : Event) → ((step : Step) × IsStep past me event step) ⊎ Elsewhere event
  unfolding Mine concerned frame_arriving
  step_cases (Order node item) = by_test (node == me) refl
    where
      by_test : (b : Bool) → (node == me) ≡ b → Mine (Order node item) ⊎ Elsewhere (Order node item)
      by_test true e = inl (Ordered item, subst (λ x. IsStep past me (Order x item) (Ordered item)) (sym (eqb-true node me e)) (orders item))
      by_test false e = inr (record { no_step = ap (λ b. cond b (Ordered item ∷ []) []) e; not_concerned = e })
  step_cases (Send node to slot) = by_test (node == me) refl
    where
      by_test : (b : Bool) → (node == me) ≡ b → Mine (Send node to slot) ⊎ Elsewhere (Send node to slot)
      by_test true e = inl (Sent to slot, subst (λ x. IsStep past me (Send x to slot) (Sent to slot)) (sym (eqb-true node me e)) (sends to slot))
      by_test false e = inr (record { no_step = ap (λ b. cond b (Sent to slot ∷ []) []) e; not_concerned = refl })
  step_cases (Ack node to slot) = by_test (node == me) refl
    where
      by_test : (b : Bool) → (node == me) ≡ b → Mine (Ack node to slot) ⊎ Elsewhere (Ack node to slot)
      by_test true e = inl (Acknowledged to slot, subst (λ x. IsStep past me (Ack x to slot) (Acknowledged to slot)) (sym (eqb-true node me e)) (acknowledges to slot))
      by_test false e = inr (record { no_step = ap (λ b. cond b (Acknowledged to slot ∷ []) []) e; not_concerned = refl })
  step_cases (Crash node) = by_test (node == me) refl
    where
      by_test : (b : Bool) → (node == me) ≡ b → Mine (Crash node) ⊎ Elsewhere (Crash node)
      by_test true e = inl (Stopped, subst (λ x. IsStep past me (Crash x) Stopped) (sym (eqb-true node me e)) stops)
      by_test false e = inr (record { no_step = ap (λ b. cond b (Stopped ∷ []) []) e; not_concerned = refl })
  step_cases (Arrive from seq) = by_frame (slice_get (frames past from) seq) refl
    where
      by_frame : (o : Option Frame) → slice_get (frames past from) seq ≡ o → Mine (Arrive from seq) ⊎ Elsewhere (Arrive from seq)
      by_frame None at = inr (record { no_step = ap (λ o. step_by o me) at; not_concerned = ap (λ o. is_node (concerned_by past o) me) at })
      by_frame (Some frame) at = by_test (frame.to == me) refl
        where
          by_test : (b : Bool) → (frame.to == me) ≡ b → Mine (Arrive from seq) ⊎ Elsewhere (Arrive from seq)
          by_test true e = inl (Arrived frame, takes from seq frame at (eqb-true frame.to me e))
          by_test false e = inr (record {
            no_step = ap (λ o. step_by o me) at ∙ ap (λ b. cond b (Arrived frame ∷ []) []) e;
            not_concerned = ap (λ o. is_node (concerned_by past o) me) at ∙ e;
          })

get_or_last : (xs : List Item) (y d : Item) → get_or (xs ++ y ∷ []) (length xs) d ≡ y
get_or_last [] y d = refl
get_or_last (x ∷ xs) y d = get_or_last xs y d

-- the message of a copy stays as the streams grow
message_of-kept : (event : Event) (past : History) (copy : FirstCopy) → copy.number < length (stream past copy.sender) → message_of (stream (event ∷ past)) copy ≡ message_of (stream past) copy
unfolding message_of
message_of-kept event past copy h =
    let e : slice_index_or (stream (event ∷ past) copy.sender) copy.number Close ≡ slice_index_or (stream past copy.sender) copy.number Close =
    ap (λ items. slice_index_or items copy.number Close) (stream-more event past copy.sender) ∙ get_or_append_left (stream past copy.sender) (items_ordered event copy.sender) Close copy.number h in
    ap (λ item. record { sender = copy.sender; number = copy.number; item = item }) e

-- each message that the node holds is the one that its sender broadcast
module _ (config : Config) where
  pub held_ok : (past : History) → IsAccepted config past → (me : ℕ) (h : Held) → Member h (held me (steps_of past me)) → h.message ≡ message_of (stream past) (copy_of h)
  unfolding IsAccepted steps_of held message_of
  held_ok [] accepted me h m = elim m [ ]
  held_ok (event ∷ past) accepted me h m = elim (step_cases past me event) [
    | inr elsewhere ↦ (let old = subst (λ steps. Member h (held me steps)) (steps_same past me event elsewhere) m in kept old (held_ok past accepted.0 me h old))
    | inl mine ↦
        (elim (Member-append h (held me (steps_of past me)) (held_by (held me (steps_of past me)) me (length (own_items (steps_of past me))) mine.0) (subst (λ all. Member h (held me all)) (steps_after past me event mine.0 mine.1) m)) [
          | inl old ↦ kept old (held_ok past accepted.0 me h old)
          | inr new ↦ by_step event mine.0 mine.1 new
        ])
  ]
    where
      kept : Member h (held me (steps_of past me)) → h.message ≡ message_of (stream past) (copy_of h) → h.message ≡ message_of (stream (event ∷ past)) (copy_of h)
      kept old before =
          let copy_in : Member (copy_of h) (first past me) = subst (λ copies. Member (copy_of h) copies) (held-steps_of past me) (Member-map copy_of h (held me (steps_of past me)) old) in
          before ∙ sym (message_of-kept event past (copy_of h) ((sound config past accepted.0).copies_ok me (copy_of h) copy_in).broadcast)

      by_body : (from seq : ℕ) (frame : Frame) → slice_get (frames past from) seq ≡ Some frame → (body : FrameBody) → frame.body ≡ body → Member h (held_by_body (held me (steps_of past me)) frame.from body) → h.message ≡ message_of (stream (Arrive from seq ∷ past)) (copy_of h)
      by_body from seq frame at (Took slot) e m = elim m [ ]
      by_body from seq frame at (Carry slot message) e m =
          let r = Member-if_not (has_pair (map copy_of (held me (steps_of past me))) message.sender message.number) h _ m in
          let ok = (sound config past accepted.0).frames_ok from frame (Member-slice_get (frames past from) seq frame at) in
          let carry : CarryOk past from frame.to slot message = subst (λ b. BodyOk past from frame.to b) e ok.body_ok in
          let goal : message ≡ message_of (stream past) (record { sender = message.sender; number = message.number; source = frame.from }) = λ j. record { sender = message.sender; number = message.number; item = carry.item_is j } in
          subst (λ x. x.message ≡ message_of (stream (Arrive from seq ∷ past)) (copy_of x)) (sym r.1)
          (goal ∙ sym (message_of-kept (Arrive from seq) past (record { sender = message.sender; number = message.number; source = frame.from }) carry.broadcast))

      by_step : (e : Event) (step : Step) → IsStep past me e step → Member h (held_by (held me (steps_of past me)) me (length (own_items (steps_of past me))) step) → h.message ≡ message_of (stream (e ∷ past)) (copy_of h)
      by_step e step (orders item) m =
          let n = length (own_items (steps_of past me)) in
          let all : stream (Order me item ∷ past) me ≡ stream past me ++ item ∷ [] = stream-more (Order me item) past me ∙ ap (λ more. stream past me ++ more) (cond-true (me == me) (item ∷ []) [] (eq-eqb me me refl)) in
          let at : slice_index_or (stream (Order me item ∷ past) me) n Close ≡ item = ap (λ items. slice_index_or items n Close) all ∙ ap (λ items. slice_index_or (stream past me ++ item ∷ []) (length items) Close) (own_items-steps_of past me) ∙ get_or_last (stream past me) item Close in
          let goal : ◌≡◌ {A = Message} (record { sender = me; number = n; item = item }) (message_of (stream (Order me item ∷ past)) (record { sender = me; number = n; source = me })) = λ j. record { sender = me; number = n; item = sym at j } in
          subst (λ x. x.message ≡ message_of (stream (Order me item ∷ past)) (copy_of x)) (sym (Member-one h _ m)) goal
      by_step e step (sends to slot) m = elim m [ ]
      by_step e step (acknowledges to slot) m = elim m [ ]
      by_step e step (takes from seq frame at to) m = by_body from seq frame at frame.body refl m
      by_step e step stops m = elim m [ ]
