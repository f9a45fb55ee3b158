-- Why an event is refused is read off the nodes that it names.
use Rattle.std.proofs.Common.{◌≡◌, ℕ, ◌<◌, ◌≤◌, refl, sym, ◌∙◌, ap, subst, length, Option, Some, None}
use Rattle.std.specs.Prelude.{◌≢◌, slice_get, option_map, IsSomeAnd, IfErr, Result, Ok, Err}
use Rattle.std.proofs.lemmas.Option.{slice_get-map}
use Rattle.cast_message.specs.declared.config.Config.{Config}
use Rattle.cast_message.specs.declared.event.Event.{Event}
use Rattle.cast_message.specs.declared.event.Event.TheVariants.{Arrive}
use Rattle.cast_message.specs.declared.event.StepFault.{StepFault}
use Rattle.cast_message.specs.declared.event.StepFault.TheVariants.{NoNode, Memory}
use Rattle.cast_message.specs.declared.message.Frame.{Frame}
use Rattle.cast_message.specs.declared.message.FrameBody.TheVariants.{Took}
use Rattle.cast_model.specs.History.{History, frames}
use Rattle.cast_model.specs.Replies.{fault}
use Rattle.cast_model.specs.Steps.{Step, Arrived, Stopped, steps_of}
use Rattle.cast_model.specs.OwnSteps.{IsStep, takes}
use Rattle.cast_model.proofs.Members.{Member-slice_get}
use Rattle.cast_model.proofs.OwnReplies.{own_fault-steps_of, frame_ends}
use Rattle.cast_model.proofs.Sound.{sound}
use Rattle.cast_node.specs.Kept.{Kept}
use Rattle.cast_node.specs.Turns.{kept_fault}
use Rattle.cast_node.proofs.Refusals.{faults_are}
use Rattle.cast_world.specs.declared.frames.Mark.{Mark}
use Rattle.cast_world.specs.Group.{State, node_at, marks_at, mark_of, frame_by, Stands}
use Rattle.cast_world.specs.Moves.{actor_of, missing}
use Rattle.cast_world.proofs.Stepping.{made_all, outside, no_frame, to_again, body_again}

module _ (config : Config) (past : History) (world : State) (st : Stands config past world) where
  -- an event that names no node
  pub by_nobody : (event : Event) (p : ℕ) → p ≡ actor_of event → length world.nodes ≤ p → ◌≡◌ {A = Option StepFault} (Some NoNode) (fault config past event)
  by_nobody event p e l = sym (outside config past world st event (subst (λ q. config.nodes ≤ q) e (subst (λ n. n ≤ p) st.size l)))

  -- one that is a node's step, where the node was asked
  pub by_step : (event : Event) (step : Step) (p : ℕ) (kept : Kept) (found : Option StepFault) → p < length world.nodes → kept ≡ node_at world p → found ≡ kept_fault kept step → IsStep past p event step → found ≡ fault config past event
  by_step event step p kept found inside same asked is =
      let p_in : p < config.nodes = subst (λ n. p < n) st.size inside in
      asked ∙ ap (λ k. kept_fault k step) same ∙ faults_are config p (steps_of past p) (node_at world p) (st.nodes p p_in) step ∙ own_fault-steps_of config past p st.accepted p_in event step is

  -- one that is a step of the node that it names
  pub by_actor : (event named : Event) (step : Step) (p : ℕ) (kept : Kept) (found : Option StepFault) → event ≡ named → p ≡ actor_of event → (p < length world.nodes) × (kept ≡ node_at world p) → found ≡ kept_fault kept step → IsStep past (actor_of named) named step → found ≡ fault config past event
  by_actor event named step p kept found is_named at node asked is =
      let same : p ≡ actor_of named = at ∙ ap actor_of is_named in
      subst (λ e. found ≡ fault config past e) (sym is_named)
      (by_step named step (actor_of named) kept found (subst (λ q. q < length world.nodes) same node.0) (node.1 ∙ ap (node_at world) same) asked is)

  -- a node crashes where it would take a frame
  pub by_crash : (kept : Kept) (found : Option StepFault) → ((frame : Frame) → found ≡ kept_fault kept (Arrived frame)) → found ≡ kept_fault kept Stopped
  unfolding kept_fault
  by_crash kept found asked = asked (record { from = 0; seq = 0; to = 0; body = Took 0 })

  -- a mark stands where its frame does
  pub marked : (from seq : ℕ) → slice_get (marks_at world from) seq ≡ option_map mark_of (slice_get (frames past from) seq)
  marked from seq = ap (λ row. slice_get row seq) (made_all config past world st from) ∙ slice_get-map mark_of (frames past from) seq

  pub marked_frame : (from seq : ℕ) (mark : Mark) → slice_get (marks_at world from) seq ≡ Some mark → (frame : Frame) × (slice_get (frames past from) seq ≡ Some frame) × (mark ≡ mark_of frame)
  marked_frame from seq mark there = by_frame (slice_get (frames past from) seq) refl (sym there ∙ marked from seq)
    where
      by_frame : (o : Option Frame) → slice_get (frames past from) seq ≡ o → Some mark ≡ option_map mark_of (slice_get (frames past from) seq) → (frame : Frame) × (slice_get (frames past from) seq ≡ Some frame) × (mark ≡ mark_of frame)
      by_frame None at e =
          let none = e ∙ ap (option_map mark_of) at in
          absurd cc
      by_frame (Some frame) at e =
          let one = e ∙ ap (option_map mark_of) at in
          (frame, at, cc)

  -- a frame that is there arrives
  pub by_arrival : (from seq : ℕ) (mark : Mark) (kept : Kept) (found : Option StepFault) → slice_get (marks_at world from) seq ≡ Some mark → kept ≡ node_at world mark.to → ((frame : Frame) → found ≡ kept_fault kept (Arrived frame)) → found ≡ fault config past (Arrive from seq)
  by_arrival from seq mark kept found there same asked =
      let m = marked_frame from seq mark there in
      let frame = m.0 in
      let to_is : mark.to ≡ frame.to = ap (λ (m : Mark). m.to) m.2 ∙ to_again frame.to frame.body in
      let ends = frame_ends config past st.accepted from frame (Member-slice_get (frames past from) seq frame m.1) in
      by_step (Arrive from seq) (Arrived frame) frame.to kept found (subst (λ n. frame.to < n) (sym st.size) ends.target_in) (same ∙ ap (node_at world) to_is) (asked frame) (takes from seq frame m.1 refl)

  -- one that isn't
  pub by_none : (from seq : ℕ) (refusal : StepFault) → slice_get (marks_at world from) seq ≡ None → refusal ≡ missing (length world.marks) from → Some refusal ≡ fault config past (Arrive from seq)
  by_none from seq refusal none is = by_frame (slice_get (frames past from) seq) refl
    where
      by_frame : (o : Option Frame) → slice_get (frames past from) seq ≡ o → Some refusal ≡ fault config past (Arrive from seq)
      by_frame None at = no_frame config past world st from seq refusal at (is ∙ ap (λ n. missing n from) st.rows)
      by_frame (Some frame) at =
          let e = sym none ∙ marked from seq ∙ ap (option_map mark_of) at in
          absurd cc

  -- the frame of a mark is the one that was made
  pub made_again : (from seq : ℕ) (mark : Mark) → slice_get (marks_at world from) seq ≡ Some mark → (frame : Frame) → frame ≡ frame_by world from seq mark → IsSomeAnd (slice_get (frames past from) seq) (λ made. frame ≡ record made { seq = seq })
  made_again from seq mark there frame is =
      let m = marked_frame from seq mark there in
      let made = m.0 in
      let ok = (sound config past st.accepted).frames_ok from made (Member-slice_get (frames past from) seq made m.1) in
      let again : frame_by world from seq (mark_of made) ≡ record made { seq = seq } = λ k. record { from = sym ok.from_is k; seq = seq; to = to_again made.to made.body k; body = body_again config past world st from made.to made.body ok.body_ok k } in
      subst (λ o. IsSomeAnd o (λ f. frame ≡ record f { seq = seq })) (sym m.1) (is ∙ ap (frame_by world from seq) m.2 ∙ again)

  -- where there is no mark, there is no frame
  pub never_made : (from seq : ℕ) → slice_get (marks_at world from) seq ≡ None → slice_get (frames past from) seq ≡ None
  never_made from seq none = by_frame (slice_get (frames past from) seq) refl
    where
      by_frame : (o : Option Frame) → slice_get (frames past from) seq ≡ o → slice_get (frames past from) seq ≡ None
      by_frame None at = at
      by_frame (Some frame) at =
          let e = sym none ∙ marked from seq ∙ ap (option_map mark_of) at in
          absurd cc

  pub never_told : (r : Result Frame StepFault) (from seq : ℕ) → slice_get (marks_at world from) seq ≡ None → IfErr r (λ fault. fault ≢ Memory → slice_get (frames past from) seq ≡ None)
  never_told (Ok frame) from seq none = tt
  never_told (Err fault) from seq none = λ _. never_made from seq none
