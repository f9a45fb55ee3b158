-- A node's own steps tell how each of its events is answered, and which frame it makes.
use Rattle.std.proofs.Common.{◌≡◌, ℕ, zero, suc, ◌<◌, refl, sym, ◌∙◌, ap, subst, Bool, true, false, not, ◌&&◌, cond, List, [], ◌∷◌, ◌++◌, length, map, get_or, Option, Some, None, inl, inr, ◌⊎◌, arith}
use Rattle.std.specs.Prelude.{◌==◌, slice_get, Ok}
use Rattle.std.specs.List.{filter, range_with_len}
use Rattle.std.proofs.lemmas.List.{append-nil}
use Rattle.std.proofs.lemmas.Bool.{eq-eqb, eqb-true, eqb-false, cond-true, not-false, ltb-true, lt-ltb}
use Rattle.cast_message.specs.declared.config.Config.{Config}
use Rattle.cast_message.specs.declared.event.Event.{Event}
use Rattle.cast_message.specs.declared.event.Event.TheVariants.{Order, Send, Ack, Arrive, Crash}
use Rattle.cast_message.specs.declared.event.Answer.TheVariants.{Ordered as AnswerOrdered, Sent as AnswerSent, Arrived as AnswerArrived}
use Rattle.cast_message.specs.declared.event.StepFault.{StepFault}
use Rattle.cast_message.specs.declared.message.Item.TheVariants.{Close}
use Rattle.cast_message.specs.declared.message.Frame.{Frame}
use Rattle.cast_message.specs.declared.message.FrameBody.{FrameBody}
use Rattle.cast_message.specs.declared.message.FrameBody.TheVariants.{Carry, Took}
use Rattle.cast_model.specs.History.{History, stream, first, frames, frames_gained, given, given_of, copy_at, message_of, acked}
use Rattle.cast_model.specs.Delivery.{outcome}
use Rattle.cast_model.specs.Refusals.{Cause, no_node, self_link, step_causes, first_fault}
use Rattle.cast_model.specs.Replies.{view_of, causes, causes_of_arrival, fault, target_of, answer, reply_by, reply, IsAccepted}
use Rattle.cast_model.specs.Rounds.{owed}
use Rattle.cast_model.specs.Steps.{Step, Ordered, Sent, Acknowledged, Arrived, Stopped, steps_of, Held, copy_of, held}
use Rattle.cast_model.specs.OwnSteps.{own_given, own_acked, own_owed, own_outcome, message_in, own_made, own_frames, own_view, own_fault, own_answer, own_reply, IsStep, orders, sends, acknowledges, takes, stops}
use Rattle.cast_model.proofs.Members.{Member, here, there, Member-append, Member-if, Member-filter, Member-get_or, Member-slice_get}
use Rattle.cast_model.proofs.Growth.{made}
use Rattle.cast_model.proofs.Accepted.{no_cause, Send-slot}
use Rattle.cast_model.proofs.RoundFaults.{quiet}
use Rattle.cast_model.proofs.Projected.{own_items-steps_of, frame_count-steps_of}
use Rattle.cast_model.proofs.OwnHeld.{own_live-steps_of, own_given-steps_of, own_taken-steps_of, own_acked-steps_of, step_cases, Elsewhere, steps_after, steps_same, held_ok}
use Rattle.cast_model.proofs.OwnTurns.{own_outcome-steps_of, length-map}

-- the ends of a frame are two nodes of the group
pub record Ends (config : Config) (p : ℕ) (frame : Frame) : Type 0 where
  pub maker_in : p < config.nodes
  pub target_in : frame.to < config.nodes
  pub apart : p ≡ frame.to → ⊥

in_group : (config : Config) (p : ℕ) → (no_node config p).holds ≡ false → p < config.nodes
in_group config p e = ltb-true p config.nodes (not-false _ e)

-- those of a frame whose step has these causes of refusal first
Ends-first : (config : Config) (from to p seq : ℕ) (body : FrameBody) (more : List Cause) (frame : Frame) → first_fault (no_node config from ∷ no_node config to ∷ self_link from to ∷ more) ≡ None →
    Member frame (cond (from == p) (record { from = p; seq = seq; to = to; body = body } ∷ []) []) → Ends config p frame
Ends-first config from to p seq body more frame e m =
    let all = no_node config from ∷ no_node config to ∷ self_link from to ∷ more in
    let r = Member-if (from == p) frame _ m in
    subst (λ x. Ends config x frame) (eqb-true from p r.0) (subst (λ f. Ends config from f) (sym r.1) (record {
      maker_in = in_group config from (no_cause _ all e here);
      target_in = in_group config to (no_cause _ all e (there here));
      apart = eqb-false from to (no_cause _ all e (there (there here)));
    }))

Ends-made : (config : Config) (past : History) (event : Event) → fault config past event ≡ None → (p : ℕ) (frame : Frame) → Member frame (made event past p) → Ends config p frame
unfolding frames_gained fault causes
Ends-made config past (Send from to slot) e p frame m = Ends-first config from to p _ _ _ frame e m
Ends-made config past (Ack from to slot) e p frame m = Ends-first config from to p _ _ _ frame e m
Ends-made config past (Order node item) e p frame m = elim m [ ]
Ends-made config past (Arrive from seq) e p frame m = elim m [ ]
Ends-made config past (Crash node) e p frame m = elim m [ ]

pub frame_ends : (config : Config) (past : History) → IsAccepted config past → (p : ℕ) (frame : Frame) → Member frame (frames past p) → Ends config p frame
unfolding IsAccepted first frames
frame_ends config [] accepted p frame m = elim m [ ]
frame_ends config (event ∷ past) accepted p frame m = elim (Member-append frame (frames past p) (made event past p) m) [
  | inl old ↦ frame_ends config past accepted.0 p frame old
  | inr new ↦ Ends-made config past event accepted.1 p frame new
]

get_or-map : {A B : Type 0} (f : A → B) (xs : List A) (i : ℕ) (d : A) → get_or (map f xs) i (f d) ≡ f (get_or xs i d)
get_or-map f [] i d = refl
get_or-map f (x ∷ xs) zero d = refl
get_or-map f (x ∷ xs) (suc i) d = get_or-map f xs i d

module _ (config : Config) (past : History) (me : ℕ) where
  pub given_count : (to : ℕ) → length (own_given me (steps_of past me) to) ≡ length (given past me to)
  given_count to = sym (length-map copy_of (own_given me (steps_of past me) to)) ∙ ap length (own_given-steps_of past me to)

  -- a node shows the same by its own steps
  view_is : own_view me (steps_of past me) ≡ view_of past me
  view_is = λ k. record {
    live = own_live-steps_of past me k;
    stream = own_items-steps_of past me k;
    slots = λ to. given_count to k;
    has_acked = λ to slot. own_acked-steps_of past me to slot k;
    has_taken = λ to slot. own_taken-steps_of past me to slot k;
    frames = frame_count-steps_of past me k;
  }

  by_view : (step : Step) → first_fault (step_causes config me (own_view me (steps_of past me)) step) ≡ first_fault (step_causes config me (view_of past me) step)
  by_view step = ap (λ view. first_fault (step_causes config me view step)) view_is

  module _ (accepted : IsAccepted config past) (me_in : me < config.nodes) where
    here_in : (no_node config me).holds ≡ false
    here_in = ap not (lt-ltb me config.nodes me_in)

    -- the causes of a step are those of the event, behind that its node is none
    named : (step : Step) → first_fault (step_causes config me (view_of past me) step) ≡ first_fault (no_node config me ∷ step_causes config me (view_of past me) step)
    named step = sym (quiet (no_node config me) (step_causes config me (view_of past me) step) here_in)

    -- the refusal
    pub own_fault-steps_of : (event : Event) (step : Step) → IsStep past me event step → own_fault config me (steps_of past me) step ≡ fault config past event
    unfolding own_fault fault causes
    own_fault-steps_of event step (orders item) = by_view (Ordered item) ∙ named (Ordered item)
    own_fault-steps_of event step (sends to slot) = by_view (Sent to slot) ∙ named (Sent to slot)
    own_fault-steps_of event step (acknowledges to slot) = by_view (Acknowledged to slot) ∙ named (Acknowledged to slot)
    own_fault-steps_of event step (takes from seq frame at to) =
        let ends = frame_ends config past accepted from frame (Member-slice_get (frames past from) seq frame at) in
        by_view (Arrived frame)
        ∙ ap (λ p. first_fault (step_causes config p (view_of past p) (Arrived frame))) (sym to)
        ∙ sym (ap (λ o. first_fault (causes_of_arrival config past o)) at)
        ∙ sym (quiet (no_node config from) (causes_of_arrival config past (slice_get (frames past from) seq)) (ap not (lt-ltb from config.nodes ends.maker_in)))
    own_fault-steps_of event step stops = by_view Stopped ∙ named Stopped

    -- the answer, where there is no refusal
    pub own_answer-steps_of : (event : Event) (step : Step) → IsAccepted config (event ∷ past) → IsStep past me event step → own_answer config me (steps_of past me) step ≡ answer config past event
    unfolding own_answer answer
    own_answer-steps_of event step done (orders item) =
        ap (λ items. AnswerOrdered (length items) (own_outcome config me (steps_of past me) (Ordered item))) (own_items-steps_of past me)
        ∙ ap (λ o. AnswerOrdered (length (stream past me)) o) (own_outcome-steps_of config past me (Order me item) (Ordered item) done (orders item))
    own_answer-steps_of event step done (sends to slot) = ap (λ n. AnswerSent n) (frame_count-steps_of past me)
    own_answer-steps_of event step done (acknowledges to slot) = ap (λ n. AnswerSent n) (frame_count-steps_of past me)
    own_answer-steps_of event step done (takes from seq frame at to) =
        ap (λ o. AnswerArrived me o) (own_outcome-steps_of config past me (Arrive from seq) (Arrived frame) done (takes from seq frame at to))
        ∙ ap (λ p. AnswerArrived p (outcome config past (Arrive from seq))) (sym (ap target_of at ∙ to))
    own_answer-steps_of event step done stops = refl

    -- the reply
    pub own_reply-steps_of : (event : Event) (step : Step) → IsStep past me event step → own_reply config me (steps_of past me) step ≡ reply config past event
    unfolding own_reply reply IsAccepted
    own_reply-steps_of event step is =
        ap (λ o. reply_by o (own_answer config me (steps_of past me) step)) (own_fault-steps_of event step is) ∙ by_fault (fault config past event) refl
      where
        by_fault : (o : Option StepFault) → fault config past event ≡ o → reply_by o (own_answer config me (steps_of past me) step) ≡ reply_by o (answer config past event)
        by_fault None e = ap (λ a. Ok a) (own_answer-steps_of event step (accepted, e) is)
        by_fault (Some refusal) e = refl

  -- the frame that it makes
  pub own_made-steps_of : (event : Event) (step : Step) → IsAccepted config (event ∷ past) → IsStep past me event step → own_made me (steps_of past me) step ≡ made event past me
  unfolding own_made frames_gained IsAccepted own_given given given_of copy_at message_in
  own_made-steps_of event step done (sends to slot) =
      let steps = steps_of past me in
      let blank : Held = record { message = record { sender = 0; number = 0; item = Close }; source = 0 } in
      let h = get_or (own_given me steps to) slot blank in
      let inside : slot < length (own_given me steps to) = (let a = Send-slot config past me to slot done.1 in let b = given_count to in omega (arith, a, b)) in
      let m = (Member-filter (λ (x : Held). not (x.message.sender == to) && not (x.source == to)) h (held me steps) (Member-get_or (own_given me steps to) slot blank inside)).0 in
      let copy : copy_of h ≡ copy_at (given past me to) slot = sym (get_or-map copy_of (own_given me steps to) slot blank) ∙ ap (λ copies. copy_at copies slot) (own_given-steps_of past me to) in
      let message : h.message ≡ message_of (stream past) (copy_at (given past me to) slot) = held_ok config past done.0 me h m ∙ ap (message_of (stream past)) copy in
      ap (λ n. record { from = me; seq = n; to = to; body = Carry slot h.message } ∷ []) (frame_count-steps_of past me)
      ∙ ap (λ x. record { from = me; seq = length (frames past me); to = to; body = Carry slot x } ∷ []) message
      ∙ sym (cond-true (me == me) _ [] (eq-eqb me me refl))
  own_made-steps_of event step done (acknowledges to slot) =
      ap (λ n. record { from = me; seq = n; to = to; body = Took slot } ∷ []) (frame_count-steps_of past me) ∙ sym (cond-true (me == me) _ [] (eq-eqb me me refl))
  own_made-steps_of event step done (orders item) = refl
  own_made-steps_of event step done (takes from seq frame at to) = refl
  own_made-steps_of event step done stops = refl

-- an event that is no step of the node makes none of its frames
made_elsewhere : (past : History) (me : ℕ) (event : Event) → Elsewhere past me event → made event past me ≡ []
unfolding frames_gained
made_elsewhere past me (Send node to slot) e = by_test (node == me) e.no_step
  where
    by_test : (b : Bool) → cond b (Sent to slot ∷ []) [] ≡ [] → ◌≡◌ {A = List Frame} (cond b (record { from = me; seq = length (frames past me); to = to; body = Carry slot (message_of (stream past) (copy_at (given_of (first past me) to) slot)) } ∷ []) []) []
    by_test true e = absurd (cc)
    by_test false e = refl
made_elsewhere past me (Ack node to slot) e = by_test (node == me) e.no_step
  where
    by_test : (b : Bool) → cond b (Acknowledged to slot ∷ []) [] ≡ [] → ◌≡◌ {A = List Frame} (cond b (record { from = me; seq = length (frames past me); to = to; body = Took slot } ∷ []) []) []
    by_test true e = absurd (cc)
    by_test false e = refl
made_elsewhere past me (Order node item) e = refl
made_elsewhere past me (Arrive from seq) e = refl
made_elsewhere past me (Crash node) e = refl

-- the frames that it made
pub own_frames-steps_of : (config : Config) (past : History) → IsAccepted config past → (me : ℕ) → own_frames me (steps_of past me) ≡ frames past me
unfolding own_frames steps_of IsAccepted first frames
own_frames-steps_of config [] accepted me = refl
own_frames-steps_of config (event ∷ past) accepted me = by_case (step_cases past me event) (own_frames-steps_of config past accepted.0 me)
  where
    by_case : ((step : Step) × IsStep past me event step) ⊎ Elsewhere past me event → own_frames me (steps_of past me) ≡ frames past me → own_frames me (steps_of (event ∷ past) me) ≡ frames past me ++ made event past me
    by_case (inl mine) ih =
        ap (own_frames me) (steps_after past me event mine.0 mine.1)
        ∙ ap (λ all. all ++ own_made me (steps_of past me) mine.0) ih
        ∙ ap (λ more. frames past me ++ more) (own_made-steps_of config past me event mine.0 accepted mine.1)
    by_case (inr elsewhere) ih =
        ap (own_frames me) (steps_same past me event elsewhere) ∙ ih ∙ sym (append-nil (frames past me)) ∙ ap (λ more. frames past me ++ more) (sym (made_elsewhere past me event elsewhere))

-- what it owes
pub own_owed-steps_of : (past : History) (me q : ℕ) → own_owed me (steps_of past me) q ≡ owed past me q
unfolding own_owed owed
own_owed-steps_of past me q =
    let same : (λ (slot : ℕ). not (own_acked (steps_of past me) q slot)) ≡ (λ (slot : ℕ). not (acked past me q slot)) = λ j slot. not (own_acked-steps_of past me q slot j) in
    let count : length (own_given me (steps_of past me) q) ≡ length (given past me q) = sym (length-map copy_of (own_given me (steps_of past me) q)) ∙ ap length (own_given-steps_of past me q) in
    ap (λ n. filter (λ slot. not (own_acked (steps_of past me) q slot)) (range_with_len 0 n)) count
    ∙ ap (λ test. filter test (range_with_len 0 (length (given past me q)))) same
