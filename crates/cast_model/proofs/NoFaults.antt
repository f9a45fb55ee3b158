-- Where no fault is tolerated, both modes are one: a node that holds a pair knows so of itself, and that is enough.
use Rattle.std.proofs.Common.{◌≡◌, ℕ, ◌<◌, ◌*◌, refl, sym, ◌∙◌, ap, subst, Bool, true, false, ◌&&◌, cond, List, [], ◌∷◌, ◌++◌, length, Option, Some, None, Ok, arith}
use Rattle.std.specs.Prelude.{◌==◌, slice_get, slice_range}
use Rattle.std.specs.List.{filter, count_by, prefix_len}
use Rattle.std.proofs.lemmas.List.Sums.{length-filter}
use Rattle.std.proofs.lemmas.Bool.{eqb-true, lt-ltb}
use Rattle.cast_message.specs.declared.config.Config.{Config}
use Rattle.cast_message.specs.declared.config.Mode.{Mode}
use Rattle.cast_message.specs.declared.config.Mode.TheVariants.{Basic, Uniform}
use Rattle.cast_message.specs.declared.event.Event.{Event}
use Rattle.cast_message.specs.declared.event.Event.TheVariants.{Order, Send, Ack, Arrive, Crash}
use Rattle.cast_message.specs.declared.event.Answer.TheVariants.{Ordered as AnswerOrdered, Arrived as AnswerArrived}
use Rattle.cast_message.specs.declared.event.StepFault.{StepFault}
use Rattle.cast_message.specs.declared.message.Frame.{Frame}
use Rattle.cast_message.specs.declared.message.Item.{Item}
use Rattle.cast_message.specs.declared.message.Item.TheVariants.{Data, Propose, Close}
use Rattle.cast_message.specs.declared.message.Message.{Message}
use Rattle.cast_message.specs.Limits.{fault_factor}
use Rattle.cast_model.specs.History.{History, stream, broadcast, has_pair, first, frames}
use Rattle.cast_model.specs.Delivery.{nodes_of, knows, known_by, is_known_enough, is_ready, next, Concerned, concerned, concerned_by, is_node, turns, turns_of, deliveries, delivery_log, log_of, decision_on, decisions_of, outcome}
use Rattle.cast_model.specs.Refusals.{no_node, first_fault}
use Rattle.cast_model.specs.Replies.{causes, causes_of_arrival, fault, answer, target_of, reply, reply_by, after, after_by, history_from, IsAccepted, replies_from, replies}
use Rattle.cast_model.specs.RunLaws.{in_mode}
use Rattle.cast_model.proofs.Members.{filter-Member, Member-slice_get, some-Member}
use Rattle.cast_model.proofs.Accepted.{Order-node}
use Rattle.cast_model.proofs.Answered.{IsAccepted-history_from}
use Rattle.cast_model.proofs.AtRest.{Member-range_with_len}
use Rattle.cast_model.proofs.Uniform.{self_known}
use Rattle.cast_model.proofs.OwnReplies.{frame_ends}

-- a node that holds a pair is known to itself, which is more than none
known_enough : (config : Config) → config.faults ≡ 0 → (mode : Mode) (past : History) (q s i : ℕ) → q < config.nodes → has_pair (first past q) s i ≡ true → is_known_enough mode config past q s i ≡ true
unfolding is_known_enough known_by
known_enough config none Basic past q s i q_in held = refl
known_enough config none Uniform past q s i q_in held =
    let self = filter-Member (knows past q s i) q (nodes_of config) (Member-range_with_len config.nodes 0 q (omega arith) (omega (arith, q_in))) (self_known past q s i) in
    let some : 0 < count_by (knows past q s i) (nodes_of config) =
    subst (λ n. 0 < n) (length-filter (knows past q s i) (nodes_of config)) (some-Member q (filter (knows past q s i) (nodes_of config)) self) in
    rw held (lt-ltb _ _ (omega (arith, none, some)))

-- whom an event concerns is a node of the group
abbrev IsIn : Config → Option Concerned → Type 0
IsIn config None = Unit {0}
IsIn config (Some c) = c.node < config.nodes

concerned_in : (config : Config) (past : History) → IsAccepted config past → (event : Event) → fault config past event ≡ None → IsIn config (concerned past event)
unfolding concerned
concerned_in config past accepted (Order node item) e = Order-node config past node item e
concerned_in config past accepted (Arrive from seq) e = by_frame (slice_get (frames past from) seq) refl
  where
    by_frame : (found : Option Frame) → slice_get (frames past from) seq ≡ found → IsIn config (concerned_by past found)
    by_frame None f = tt
    by_frame (Some frame) f = (frame_ends config past accepted from frame (Member-slice_get (frames past from) seq frame f)).target_in
concerned_in config past accepted (Send from to slot) e = tt
concerned_in config past accepted (Ack from to slot) e = tt
concerned_in config past accepted (Crash node) e = tt

module _ (config : Config) (none : config.faults ≡ 0) (mode : Mode) (in_range : fault_factor mode * config.faults < config.nodes) where
  abbrev other : Config
  other = in_mode config mode in_range

  ready_same : (past : History) (q s i : ℕ) → q < config.nodes → is_ready other past q s i ≡ is_ready config past q s i
  unfolding is_ready
  ready_same past q s i q_in = by_held (has_pair (first past q) s i) refl
    where
      by_held : (held : Bool) → has_pair (first past q) s i ≡ held → (held && is_known_enough mode other past q s i) ≡ (held && is_known_enough config.mode config past q s i)
      by_held true h = known_enough other none mode past q s i q_in h ∙ sym (known_enough config none config.mode past q s i q_in h)
      by_held false h = refl

  next_same : (past : History) (q s : ℕ) → q < config.nodes → next other past q s ≡ next config past q s
  unfolding next
  next_same past q s q_in =
      let same : (λ (message : Message). is_ready other past q s message.number) ≡ (λ (message : Message). is_ready config past q s message.number) =
      λ j message. ready_same past q s message.number q_in j in
      ap (λ test. prefix_len test (broadcast past s)) same

  turns_same : (past : History) (event : Event) (q s : ℕ) → q < config.nodes → turns other past event q s ≡ turns config past event q s
  unfolding turns
  turns_same past event q s q_in =
      ap (λ n. slice_range (broadcast (event ∷ past) s) n (next other (event ∷ past) q s)) (next_same past q s q_in)
      ∙ ap (λ n. slice_range (broadcast (event ∷ past) s) (next config past q s) n) (next_same (event ∷ past) q s q_in)

  turns_of_same : (past : History) (event : Event) (c : Option Concerned) → IsIn config c → turns_of other past event c ≡ turns_of config past event c
  turns_of_same past event None c_in = refl
  turns_of_same past event (Some c) c_in = turns_same past event c.node c.sender c_in

  log_same : (past : History) (q : ℕ) → q < config.nodes → delivery_log other past q ≡ delivery_log config past q
  unfolding delivery_log deliveries
  log_same [] q q_in = refl
  log_same (event ∷ past) q q_in =
      ap (λ log. log ++ cond (is_node (concerned past event) q) (turns_of other past event (concerned past event)) []) (log_same past q q_in)
      ∙ ap (λ news. delivery_log config past q ++ news) (by_concerned (concerned past event))
    where
      by_concerned : (c : Option Concerned) → cond (is_node c q) (turns_of other past event c) [] ≡ cond (is_node c q) (turns_of config past event c) []
      by_concerned None = refl
      by_concerned (Some c) = by_test (c.node == q) refl
        where
          by_test : (b : Bool) → (c.node == q) ≡ b → cond b (turns other past event c.node c.sender) [] ≡ cond b (turns config past event c.node c.sender) []
          by_test true e = turns_same past event c.node c.sender (subst (λ node. node < config.nodes) (sym (eqb-true c.node q e)) q_in)
          by_test false e = refl

  log_of_same : (past : History) (c : Option Concerned) → IsIn config c → log_of other past c ≡ log_of config past c
  log_of_same past None c_in = refl
  log_of_same past (Some c) c_in = log_same past c.node c_in

  decision_on_same : (log : List Message) (item : Item) → decision_on other log item ≡ decision_on config log item
  decision_on_same log (Data bytes) = refl
  decision_on_same log (Propose instance value) = refl
  decision_on_same log Close = refl

  decisions_same : (log news : List Message) → decisions_of other log news ≡ decisions_of config log news
  unfolding decisions_of
  decisions_same log [] = refl
  decisions_same log (message ∷ news) =
      ap (λ decisions. decisions ++ decisions_of other (log ++ message ∷ []) news) (decision_on_same (log ++ message ∷ []) message.item)
      ∙ ap (λ decisions. decision_on config (log ++ message ∷ []) message.item ++ decisions) (decisions_same (log ++ message ∷ []) news)

  outcome_same : (past : History) (event : Event) → IsIn config (concerned past event) → outcome other past event ≡ outcome config past event
  unfolding outcome deliveries
  outcome_same past event c_in =
      let news = turns_of config past event (concerned past event) in
      ap (λ those. record { deliveries = those; decisions = decisions_of other (log_of other past (concerned past event)) those }) (turns_of_same past event (concerned past event) c_in)
      ∙ ap (λ log. record { deliveries = news; decisions = decisions_of other log news }) (log_of_same past (concerned past event) c_in)
      ∙ ap (λ decisions. record { deliveries = news; decisions = decisions }) (decisions_same (log_of config past (concerned past event)) news)

  answer_same : (past : History) → IsAccepted config past → (event : Event) → fault config past event ≡ None → answer other past event ≡ answer config past event
  unfolding answer
  answer_same past accepted (Order node item) e =
      ap (λ outcome. AnswerOrdered (length (stream past node)) outcome) (outcome_same past (Order node item) (concerned_in config past accepted (Order node item) e))
  answer_same past accepted (Arrive from seq) e =
      ap (λ outcome. AnswerArrived (target_of (slice_get (frames past from) seq)) outcome) (outcome_same past (Arrive from seq) (concerned_in config past accepted (Arrive from seq) e))
  answer_same past accepted (Send from to slot) e = refl
  answer_same past accepted (Ack from to slot) e = refl
  answer_same past accepted (Crash node) e = refl

  fault_same : (past : History) (event : Event) → fault other past event ≡ fault config past event
  unfolding fault causes
  fault_same past (Order node item) = refl
  fault_same past (Send from to slot) = refl
  fault_same past (Ack from to slot) = refl
  fault_same past (Arrive from seq) = ap (λ all. first_fault (no_node config from ∷ all)) (by_frame (slice_get (frames past from) seq))
    where
      by_frame : (found : Option Frame) → causes_of_arrival other past found ≡ causes_of_arrival config past found
      by_frame None = refl
      by_frame (Some frame) = refl
  fault_same past (Crash node) = refl

  reply_same : (past : History) → IsAccepted config past → (event : Event) → reply other past event ≡ reply config past event
  unfolding reply
  reply_same past accepted event =
      ap (λ refusal. reply_by refusal (answer other past event)) (fault_same past event) ∙ by_fault (fault config past event) refl
    where
      by_fault : (refusal : Option StepFault) → fault config past event ≡ refusal → reply_by refusal (answer other past event) ≡ reply_by refusal (answer config past event)
      by_fault None e = ap Ok (answer_same past accepted event e)
      by_fault (Some refusal) e = refl

  replies_same : (past : History) → IsAccepted config past → (events : List Event) → replies_from other past events ≡ replies_from config past events
  unfolding replies_from after history_from
  replies_same past accepted [] = refl
  replies_same past accepted (event ∷ events) =
      ap (λ first. first ∷ replies_from other (after_by (fault other past event) past event) events) (reply_same past accepted event)
      ∙ ap (λ refusal. reply config past event ∷ replies_from other (after_by refusal past event) events) (fault_same past event)
      ∙ ap (λ rest. reply config past event ∷ rest) (replies_same (after config past event) (IsAccepted-history_from config past (event ∷ []) accepted) events)

  pub no_faults_no_modes : (events : List Event) → replies other events ≡ replies config events
  unfolding IsAccepted
  no_faults_no_modes events = replies_same [] tt events
