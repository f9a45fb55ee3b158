-- A world in which one node takes a step goes on as the definitions say.
use Rattle.std.proofs.Common.{◌≡◌, ◌≢◌, ◌⊎◌, ℕ, ◌<◌, ◌≤◌, refl, sym, ◌∙◌, ap, subst, Bool, true, false, not, cond, List, [], ◌∷◌, ◌++◌, length, map, Option, Some, None, inl, inr, arith, Result, Ok, Err}
use Rattle.std.specs.Prelude.{◌==◌, nat_lt, slice_get, slice_index_or, option_map, if◌then◌else◌}
use Rattle.std.proofs.lemmas.Bool.{cases_eq, cases_lt, ne_eqb, eq-eqb}
use Rattle.std.proofs.lemmas.Bool.Decides.{nat_tests}
use Rattle.std.proofs.lemmas.List.{append-nil, map-append}
use Rattle.std.proofs.lemmas.Option.{slice_get-map}
use Rattle.std.proofs.Math.ListN.{get_or-eq_default}
use Rattle.cast_message.specs.declared.config.Config.{Config}
use Rattle.cast_message.specs.declared.event.Event.{Event}
use Rattle.cast_message.specs.declared.event.Event.TheVariants.{Order, Send, Ack, Arrive, Crash}
use Rattle.cast_message.specs.declared.event.Answer.{Answer}
use Rattle.cast_message.specs.declared.event.StepFault.{StepFault}
use Rattle.cast_message.specs.declared.event.StepFault.TheVariants.{NoNode, NoFrame, Memory}
use Rattle.cast_message.specs.declared.message.Item.TheVariants.{Close}
use Rattle.cast_message.specs.declared.message.Frame.{Frame}
use Rattle.cast_message.specs.declared.message.FrameBody.{FrameBody}
use Rattle.cast_message.specs.declared.message.FrameBody.TheVariants.{Carry, Took}
use Rattle.cast_model.specs.History.{History, stream, frames, frame_arriving}
use Rattle.cast_model.specs.Refusals.{Cause, no_node, first_fault}
use Rattle.cast_model.specs.Replies.{IsAccepted, IsRefused, causes, causes_of_arrival, fault, answer, reply, reply_by, after, after_by}
use Rattle.cast_model.specs.Steps.{Step, Ordered, Sent, Acknowledged, Arrived, Stopped, step_by, step_of, steps_of}
use Rattle.cast_model.specs.OwnSteps.{own_fault, own_made, own_frames, node_reply, node_after, IsStep, orders, sends, acknowledges, takes, stops}
use Rattle.cast_model.proofs.Members.{Member-slice_get}
use Rattle.cast_model.proofs.Sound.{sound, BodyOk}
use Rattle.cast_model.proofs.Agreement.{node_in as node_in_group}
use Rattle.cast_model.proofs.Projected.{own_items-steps_of}
use Rattle.cast_model.proofs.OwnTurns.{length-map}
use Rattle.cast_model.proofs.Dues.{none_from_absent}
use Rattle.cast_model.proofs.OwnHeld.{steps_after}
use Rattle.cast_model.proofs.OwnReplies.{own_fault-steps_of, own_frames-steps_of, frame_ends}
use Rattle.cast_model.proofs.Possible.{node_reply-steps_of, node_after-steps_of}
use Rattle.cast_model.proofs.RoundFaults.{quiet}
use Rattle.cast_node.specs.Kept.{nothing_kept}
use Rattle.cast_node.specs.Turns.{kept_after, kept_fault}
use Rattle.cast_node.specs.Stands.{Stands as NodeStands}
use Rattle.cast_node.proofs.Places.{length-slice_set, at_set}
use Rattle.cast_node.proofs.Refusals.{faults_are}
use Rattle.cast_node.proofs.Continuing.{continues}
use Rattle.cast_node.proofs.Showing.{carries, tells_taken}
use Rattle.cast_world.specs.declared.frames.Mark.{Mark}
use Rattle.cast_world.specs.Group.{State, node_at, marks_at, kept_by, mark_by, mark_of, body_in, frame_by, Stands, Continues}
use Rattle.cast_world.specs.Moves.{marks_after, Takes, Refuses, TakesStep, ArrivesBy, StepsTo, actor_of, missing}

-- an event is no step of another node
pub other_steps : (past : History) (p : ℕ) (event : Event) (step : Step) → IsStep past p event step → (q : ℕ) → q ≢ p → steps_of (event ∷ past) q ≡ steps_of past q
unfolding steps_of frame_arriving
other_steps past p event step is q e = ap (λ more. more ++ steps_of past q) (none event step is)
  where
    skip : (x : Step) (b : Bool) → b ≡ false → ◌≡◌ {A = List Step} (cond b (x ∷ []) []) []
    skip x b f = ap (λ c. cond c (x ∷ []) []) f

    none : (event : Event) (step : Step) → IsStep past p event step → step_of (frames past) event q ≡ []
    none event step (orders item) = skip (Ordered item) (p == q) (ne_eqb p q (λ z. e (sym z)))
    none event step (sends to slot) = skip (Sent to slot) (p == q) (ne_eqb p q (λ z. e (sym z)))
    none event step (acknowledges to slot) = skip (Acknowledged to slot) (p == q) (ne_eqb p q (λ z. e (sym z)))
    none event step (takes from seq frame at to) = ap (λ o. step_by o q) at ∙ skip (Arrived frame) (frame.to == q) (ne_eqb frame.to q (λ z. e (sym z ∙ to)))
    none event step stops = skip Stopped (p == q) (ne_eqb p q (λ z. e (sym z)))

-- a mark's target is that of its frame
pub to_again : (to : ℕ) (body : FrameBody) → (mark_by to body).to ≡ to
to_again to (Carry slot message) = refl
to_again to (Took slot) = refl

pub no_fault : (o : Option StepFault) (a b : Answer) → reply_by o a ≡ Ok b → o ≡ None
no_fault None a b e = refl
no_fault (Some refusal) a b e = absurd (cc)

module _ (config : Config) (past : History) (world : State) (st : Stands config past world) where
  -- a node takes a step
  module _ (p : ℕ) (event : Event) (step : Step) (is : IsStep past p event step) (made : List Mark)
      (made_is : p < config.nodes → own_fault config p (steps_of past p) step ≡ None → map mark_of (own_made p (steps_of past p) step) ≡ made) where
    took : (answered : Answer) (new : State) → Takes world new p step made answered → Continues config past event (Ok answered) new
    unfolding reply after own_frames IsAccepted kept_by
    took answered new t = (
      replied,
      record {
        accepted = accepted;
        same_config = ap (λ w. w.config) t.moves ∙ st.same_config;
        size = ap (λ w. length w.nodes) t.moves ∙ length-slice_set world.nodes p (node_at new p) ∙ st.size;
        rows = ap (λ w. length w.marks) t.moves ∙ rows_after made ∙ st.rows;
        nodes = λ q l. elim (cases_eq q p) [
          | inl e ↦ subst (λ x. NodeStands config x (steps_of (event ∷ past) x) (node_at new x)) (sym e) (subst (λ steps. NodeStands config p steps (node_at new p)) steps_are node.1)
          | inr e ↦ subst (NodeStands config q (steps_of (event ∷ past) q)) (sym (node_other q e)) (subst (λ steps. NodeStands config q steps (node_at world q)) (sym (other_steps past p event step is q e)) (st.nodes q l))
        ];
        kept = λ q l. elim (cases_eq q p) [
          | inl e ↦ subst (λ x. node_at new x ≡ kept_by config x (steps_of (event ∷ past) x)) (sym e) (t.gives.2 ∙ ap (λ k. kept_after k step) (st.kept p p_in) ∙ sym (ap (kept_by config p) (steps_after past p event step is)))
          | inr e ↦ node_other q e ∙ st.kept q l ∙ sym (ap (kept_by config q) (other_steps past p event step is q e))
        ];
        made = λ q l. ap (λ w. marks_at w q) t.moves ∙ row q l (cases_eq q p) ∙ ap (map mark_of) (own_frames-steps_of config (event ∷ past) accepted q);
      },
    )
      where
        p_in : p < config.nodes
        p_in = subst (λ n. p < n) st.size t.within

        node : (node_reply config p (steps_of past p) step ≡ Ok answered) × NodeStands config p (node_after config p (steps_of past p) step) (node_at new p)
        node = continues config p (steps_of past p) (node_at world p) (st.nodes p p_in) step (Ok answered) (node_at new p) t.gives

        replied : reply config past event ≡ Ok answered
        replied = sym (node_reply-steps_of config past st.accepted p p_in event step is) ∙ node.0

        clear : fault config past event ≡ None
        clear = no_fault (fault config past event) (answer config past event) answered replied

        accepted : IsAccepted config (event ∷ past)
        accepted = (st.accepted, clear)

        steps_are : node_after config p (steps_of past p) step ≡ steps_of (event ∷ past) p
        steps_are = node_after-steps_of config past st.accepted p p_in event step is ∙ ap (λ o. steps_of (after_by o past event) p) clear

        node_other : (q : ℕ) → q ≢ p → node_at new q ≡ node_at world q
        node_other q e =
            ap (λ w. node_at w q) t.moves
            ∙ at_set world.nodes p q (node_at new p) (nothing_kept world.config 0) t.within
            ∙ ap (λ b. cond b (node_at new p) (node_at world q)) (ne_eqb q p e)

        rows_after : (made : List Mark) → length (marks_after world.marks p made) ≡ length world.marks
        rows_after [] = refl
        rows_after (mark ∷ more) = length-slice_set world.marks p _

        row_at : (made : List Mark) (q : ℕ) → slice_index_or (marks_after world.marks p made) q [] ≡ cond (q == p) (marks_at world p ++ made) (marks_at world q)
        row_at [] q = elim (cases_eq q p) [
          | inl e ↦ ap (marks_at world) e ∙ sym (append-nil (marks_at world p)) ∙ sym (ap (λ b. cond b (marks_at world p ++ []) (marks_at world q)) (eq-eqb q p e))
          | inr e ↦ sym (ap (λ b. cond b (marks_at world p ++ []) (marks_at world q)) (ne_eqb q p e))
        ]
        row_at (mark ∷ more) q = at_set world.marks p q (marks_at world p ++ mark ∷ more) [] (subst (λ n. p < n) (sym st.rows) p_in)

        no_refusal : own_fault config p (steps_of past p) step ≡ None
        no_refusal = own_fault-steps_of config past p st.accepted p_in event step is ∙ clear

        row : (q : ℕ) → q < config.nodes → (q ≡ p) ⊎ (q ≢ p) → slice_index_or (marks_after world.marks p made) q [] ≡ map mark_of (own_frames q (steps_of (event ∷ past) q))
        row q l (inl e) =
            row_at made q
            ∙ ap (λ b. cond b (marks_at world p ++ made) (marks_at world q)) (eq-eqb q p e)
            ∙ (λ k. (st.made p p_in ∙ ap (map mark_of) (sym (own_frames-steps_of config past st.accepted p))) k ++ sym (made_is p_in no_refusal) k)
            ∙ sym (map-append mark_of (own_frames p (steps_of past p)) (own_made p (steps_of past p) step))
            ∙ sym (ap (λ steps. map mark_of (own_frames p steps)) (steps_after past p event step is))
            ∙ ap (λ x. map mark_of (own_frames x (steps_of (event ∷ past) x))) (sym e)
        row q l (inr e) =
            row_at made q
            ∙ ap (λ b. cond b (marks_at world p ++ made) (marks_at world q)) (ne_eqb q p e)
            ∙ st.made q l ∙ ap (map mark_of) (sym (own_frames-steps_of config past st.accepted q))
            ∙ ap (λ steps. map mark_of (own_frames q steps)) (sym (other_steps past p event step is q e))

    refused : (refusal : StepFault) (new : State) → (config.nodes ≤ p → fault config past event ≡ Some NoNode) → (new ≡ world) × Refuses world p step refusal → Continues config past event (Err refusal) new
    refused refusal new outside t = (by_place t.1, subst (Stands config past) (sym t.0) st)
      where
        by_place : Refuses world p step refusal → IsRefused (fault config past event) refusal
        by_place (inl r) =
            let p_in : p < config.nodes = subst (λ n. p < n) st.size r.0 in
            subst (λ o. IsRefused o refusal) (faults_are config p (steps_of past p) (node_at world p) (st.nodes p p_in) step ∙ own_fault-steps_of config past p st.accepted p_in event step is) r.1
        by_place (inr r) = subst (λ o. IsRefused o refusal) (sym (outside (subst (λ n. n ≤ p) st.size r.0))) r.1

    steps : (replied : Result Answer StepFault) (new : State) → (config.nodes ≤ p → fault config past event ≡ Some NoNode) → TakesStep world p step made replied new → Continues config past event replied new
    steps (Ok answered) new outside t = took answered new t
    steps (Err refusal) new outside t = refused refusal new outside t

  -- a number that is no node's made none
  pub made_all : (p : ℕ) → marks_at world p ≡ map mark_of (frames past p)
  made_all p = elim (cases_lt p config.nodes) [
    | inl l ↦ st.made p l
    | inr l ↦
        (let rows = st.rows in
        get_or-eq_default world.marks [] (omega (arith, l, rows))
        ∙ ap (map mark_of) (sym (none_from_absent (frames past p) (λ frame m. let inside = (frame_ends config past st.accepted p frame m).maker_in in omega (arith, l, inside)))))
  ]

  -- as many marks as frames
  pub made_count : (p : ℕ) → length (marks_at world p) ≡ length (frames past p)
  made_count p = ap length (made_all p) ∙ length-map mark_of (frames past p)

  out_of_group : (p : ℕ) → config.nodes ≤ p → (no_node config p).holds ≡ true
  out_of_group p l = grind (arith, nat_tests)

  first_holds : (cause : Cause) (more : List Cause) → cause.holds ≡ true → first_fault (cause ∷ more) ≡ Some cause.refusal
  unfolding first_fault
  first_holds cause more e = ap (λ b. cond b (Some cause.refusal) (first_fault more)) e

  -- an event that names no node
  pub outside : (event : Event) → config.nodes ≤ actor_of event → fault config past event ≡ Some NoNode
  unfolding fault causes
  outside (Order node item) l = first_holds (no_node config node) _ (out_of_group node l)
  outside (Send from to slot) l = first_holds (no_node config from) _ (out_of_group from l)
  outside (Ack from to slot) l = first_holds (no_node config from) _ (out_of_group from l)
  outside (Arrive from seq) l = first_holds (no_node config from) _ (out_of_group from l)
  outside (Crash node) l = first_holds (no_node config node) _ (out_of_group node l)

  -- a frame's body is that of its mark
  pub body_again : (from to : ℕ) (body : FrameBody) → BodyOk past from to body → body_in world.config world.nodes (mark_by to body) ≡ body
  body_again from to (Took slot) ok = refl
  body_again from to (Carry slot message) ok =
      let broadcast = ok.broadcast in
      let inside : message.sender < config.nodes = node_in_group config past st.accepted message.sender (omega (arith, broadcast)) in
      let range = config.nodes_in_range in
      let node = st.nodes message.sender inside in
      let stream_is : (node_at world message.sender).stream ≡ stream past message.sender = node.stream ∙ own_items-steps_of past message.sender in
      ap (λ b. cond b (Took slot) (Carry slot (record { sender = message.sender; number = message.number; item = slice_index_or (node_at world message.sender).stream message.number Close }))) (ne_eqb message.sender 255 (λ e. omega (arith, e, inside, range)))
      ∙ (λ k. Carry slot (record { sender = message.sender; number = message.number; item = (ap (λ items. slice_index_or items message.number Close) stream_is ∙ sym ok.item_is) k }))

  -- why a frame that isn't there does not arrive
  pub no_frame : (from seq : ℕ) (refusal : StepFault) → slice_get (frames past from) seq ≡ None → refusal ≡ missing config.nodes from → Some refusal ≡ fault config past (Arrive from seq)
  unfolding fault causes
  no_frame from seq refusal at is = by_place (nat_lt from config.nodes) refl
    where
      by_place : (b : Bool) → nat_lt from config.nodes ≡ b → Some refusal ≡ fault config past (Arrive from seq)
      by_place true e =
          ap Some (is ∙ ap (λ c. if c then NoFrame else NoNode) e)
          ∙ sym (quiet (no_node config from) (causes_of_arrival config past (slice_get (frames past from) seq)) (ap not e) ∙ ap (λ o. first_fault (causes_of_arrival config past o)) at ∙ first_holds (record { holds = true; refusal = NoFrame }) [] refl)
      by_place false e = ap Some (is ∙ ap (λ c. if c then NoFrame else NoNode) e) ∙ sym (first_holds (no_node config from) (causes_of_arrival config past (slice_get (frames past from) seq)) (ap not e))

  -- a frame that isn't there, and one that is
  missed : (from seq : ℕ) (o : Option Frame) → slice_get (frames past from) seq ≡ o → (replied : Result Answer StepFault) (new : State) → ArrivesBy world from seq (option_map mark_of o) replied new → Continues config past (Arrive from seq) replied new
  unfolding own_made kept_fault
  missed from seq None at (Ok answered) new t = absurd t
  missed from seq None at (Err refusal) new t = (subst (λ o. IsRefused o refusal) (no_frame from seq refusal at (t.1 ∙ ap (λ n. missing n from) st.size)) refl, subst (Stands config past) (sym t.0) st)
  missed from seq (Some frame) at replied new t =
      let member = Member-slice_get (frames past from) seq frame at in
      let ends = frame_ends config past st.accepted from frame member in
      let ok = (sound config past st.accepted).frames_ok from frame member in
      let again : frame_by world from seq (mark_of frame) ≡ record { from = frame.from; seq = seq; to = frame.to; body = frame.body } = λ k. record { from = sym ok.from_is k; seq = seq; to = to_again frame.to frame.body k; body = body_again from frame.to frame.body ok.body_ok k } in
      steps frame.to (Arrive from seq) (Arrived frame) (takes from seq frame at refl) [] (λ l none. refl) replied new (λ l. let inside = ends.target_in in absurd (omega (arith, l, inside)))
      (numbered_so replied (subst (λ f. TakesStep world frame.to (Arrived f) [] replied new) again (subst (λ q. TakesStep world q (Arrived (frame_by world from seq (mark_of frame))) [] replied new) (to_again frame.to frame.body) t)))
    where
      -- a frame's number is nothing to its target
      numbered_so : (replied : Result Answer StepFault) → TakesStep world frame.to (Arrived (record { from = frame.from; seq = seq; to = frame.to; body = frame.body })) [] replied new → TakesStep world frame.to (Arrived frame) [] replied new
      numbered_so (Ok answered) t = record { within = t.within; gives = t.gives; moves = t.moves }
      numbered_so (Err refusal) t = t

  pub continues_to : (event : Event) (replied : Result Answer StepFault) (new : State) → StepsTo world event replied new → Continues config past event replied new
  unfolding own_made
  continues_to (Order node item) replied new t = steps node (Order node item) (Ordered item) (orders item) [] (λ l none. refl) replied new (outside (Order node item)) t
  continues_to (Send from to slot) replied new t = steps from (Send from to slot) (Sent to slot) (sends to slot) _ (λ l none. ap (map mark_of) (carries config from (steps_of past from) (node_at world from) (st.nodes from l) to slot none)) replied new (outside (Send from to slot)) t
  continues_to (Ack from to slot) replied new t = steps from (Ack from to slot) (Acknowledged to slot) (acknowledges to slot) _ (λ l none. ap (map mark_of) (tells_taken config from (steps_of past from) (node_at world from) (st.nodes from l) to slot)) replied new (outside (Ack from to slot)) t
  continues_to (Arrive from seq) replied new t = missed from seq (slice_get (frames past from) seq) refl replied new (subst (λ o. ArrivesBy world from seq o replied new) (ap (λ row. slice_get row seq) (made_all from) ∙ slice_get-map mark_of (frames past from) seq) t)
  continues_to (Crash node) replied new t = steps node (Crash node) Stopped stops [] (λ l none. refl) replied new (outside (Crash node)) t

-- a reply that is no want of memory is that of the definitions
pub is_answered : (config : Config) (past : History) (event : Event) (given : Result Answer StepFault) (new : State) → given ≢ Err Memory → Continues config past event given new → given ≡ reply config past event
unfolding reply
is_answered config past event (Ok answered) new sure goes_on = sym goes_on.0
is_answered config past event (Err refusal) new sure goes_on = by_cause (fault config past event) goes_on.0
  where
    by_cause : (o : Option StepFault) → IsRefused o refusal → ◌≡◌ {A = Result Answer StepFault} (Err refusal) (reply_by o (answer config past event))
    by_cause None refused = absurd (sure (ap Err refused))
    by_cause (Some cause) refused = ap Err refused
