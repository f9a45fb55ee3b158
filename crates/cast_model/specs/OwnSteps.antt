-- What one node gives, knows, delivers, decides and answers, given its own steps alone.
--     own_copies me steps                the pairs that it holds
--     own_given me steps q               what it gives q, with the messages; a slot is a place in this list
--     own_taken steps r slot             it took the slot that r gave it
--     own_acked steps r slot             it has r's acknowledgement of that slot
--     own_owed me steps q                the slots given to q that q has not acknowledged to it
--     own_known_by config me steps s i   how many nodes it knows to hold the pair
--     own_next config me steps s         the least number of s that it may not deliver yet
--     own_delivered config me steps s    what it has delivered from s
--     own_log config me steps            all that it delivered, in order
--     own_outcome config me steps step   what a step after these delivers and decides
--     own_decision config me steps j     what it decided in instance j
--     own_made me steps step             the frame that a step after these makes
--     own_frames me steps                the frames that it made, in order
--     own_fault, own_reply               the refusal of a step after these, and its reply
--     is_possible config me steps frame  some node of a group could have made the frame for this node
--     node_reply, node_after             the reply to any request, and the steps after it: an impossible frame changes nothing
--     IsOwnAccepted config me steps      no step is refused or skipped at its place
--     IsStep past me event step          the event after past is this step of the node
use Rattle.std.specs.Prelude.{◌≡◌, ℕ, ◌-◌, ◌*◌, ◌==◌, is_some, nat_lt, nat_le, take, Bool, true, false, not, ◌&&◌, ◌||◌, if◌then◌else◌, List, [], ◌∷◌, ◌++◌, length, map, slice_get, slice_index_or}
use Rattle.std.specs.Prelude.{Option, Some, None, Result}
use Rattle.std.specs.List.{filter, list_any, filter_map, prefix_len, range_with_len}
use Rattle.cast_message.specs.declared.config.Config.{Config}
use Rattle.cast_message.specs.declared.config.Mode.{Mode}
use Rattle.cast_message.specs.declared.event.Event.{Event}
use Rattle.cast_message.specs.declared.event.Event.TheVariants.{Order, Send, Ack, Arrive, Crash}
use Rattle.cast_message.specs.declared.event.Outcome.{Outcome}
use Rattle.cast_message.specs.declared.event.Answer.{Answer}
use Rattle.cast_message.specs.declared.event.Answer.TheVariants.{Ordered as AnswerOrdered, Sent as AnswerSent, Arrived as AnswerArrived, Down}
use Rattle.cast_message.specs.declared.event.StepFault.{StepFault}
use Rattle.cast_message.specs.declared.message.Item.{Item}
use Rattle.cast_message.specs.declared.message.Item.TheVariants.{Propose, Close}
use Rattle.cast_message.specs.declared.message.Message.{Message}
use Rattle.cast_message.specs.declared.message.Decision.{Decision}
use Rattle.cast_message.specs.declared.message.Frame.{Frame}
use Rattle.cast_message.specs.declared.message.FrameBody.{FrameBody}
use Rattle.cast_message.specs.declared.message.FrameBody.TheVariants.{Carry, Took}
use Rattle.cast_model.specs.History.{History, FirstCopy, has_pair, frames, is_carry_of, is_took_of}
use Rattle.cast_model.specs.Delivery.{is_pair, is_told, holders, are_enough, sender_in, value_in, votes, least, decision_by}
use Rattle.cast_model.specs.Refusals.{NodeView, step_causes, first_fault}
use Rattle.cast_model.specs.Replies.{reply_by}
use Rattle.cast_model.specs.Steps.{Step, Ordered, Sent, Acknowledged, Arrived, Stopped, Steps, own_items, frames_in, frame_count, Held, copy_of, held}

abbrev pub is_stop : Step → Bool
is_stop Stopped = true
is_stop _ = false

-- the node has not crashed
unfoldable pub own_live : Steps → Bool
own_live steps = not (list_any is_stop steps)

-- the pairs that the node holds
abbrev pub own_copies : ℕ → Steps → List FirstCopy
own_copies me steps = map copy_of (held me steps)

-- what it gives q: not q's items, nor what came from q
unfoldable pub own_given : ℕ → Steps → ℕ → List Held
own_given me steps q = filter (λ h. not (h.message.sender == q) && not (h.source == q)) (held me steps)

abbrev pub own_given_copies : ℕ → Steps → ℕ → List FirstCopy
own_given_copies me steps q = map copy_of (own_given me steps q)

-- it took the slot that r gave it
unfoldable pub own_taken : Steps → ℕ → ℕ → Bool
own_taken steps r slot = list_any (λ frame. frame.from == r && is_carry_of slot frame.body) (frames_in steps)

-- r acknowledged the slot that it gave r
unfoldable pub own_acked : Steps → ℕ → ℕ → Bool
own_acked steps r slot = list_any (λ frame. frame.from == r && is_took_of slot frame.body) (frames_in steps)

-- the slots given to q that q has not acknowledged to it, ascending
unfoldable pub own_owed : ℕ → Steps → ℕ → List ℕ
own_owed me steps q =
    filter (λ slot. not (own_acked steps q slot)) (range_with_len 0 (length (own_given me steps q)))

-- it knows that r holds a pair that it holds itself
unfoldable pub own_knows : ℕ → Steps → ℕ → ℕ → ℕ → Bool
own_knows me steps s i r = is_told (own_given_copies me steps r) (frames_in steps) me s i r

-- how many nodes it knows to hold the pair: none if it does not hold it
unfoldable pub own_known_by : Config → ℕ → Steps → ℕ → ℕ → ℕ
own_known_by config me steps s i = holders config (own_copies me steps) (own_knows me steps s i) s i

unfoldable pub own_known_enough : Mode → Config → ℕ → Steps → ℕ → ℕ → Bool
own_known_enough mode config me steps s i = are_enough mode config.faults (own_known_by config me steps s i)

-- it may deliver the pair when its turn comes
unfoldable pub own_is_ready : Config → ℕ → Steps → ℕ → ℕ → Bool
own_is_ready config me steps s i =
    has_pair (own_copies me steps) s i && own_known_enough config.mode config me steps s i

-- how many messages of s, from the first on, it may deliver: no more than it holds
unfoldable pub own_next : Config → ℕ → Steps → ℕ → ℕ
own_next config me steps s =
    prefix_len (own_is_ready config me steps s) (range_with_len 0 (length (held me steps)))

-- the message of a held pair
unfoldable pub message_at : List Held → ℕ → ℕ → Option Message
message_at [] s i = None
message_at (h ∷ hs) s i = if is_pair (copy_of h) s i then Some h.message else message_at hs s i

-- the held messages of s from number a up to number b
unfoldable pub messages_from : List Held → ℕ → ℕ → ℕ → List Message
messages_from hs s a b = filter_map (message_at hs s) (range_with_len a (b - a))

-- what it has delivered from s
unfoldable pub own_delivered : Config → ℕ → Steps → ℕ → List Message
own_delivered config me steps s = messages_from (held me steps) s 0 (own_next config me steps s)

-- the sender of the pair that a step after these is about
abbrev pub own_concerned : ℕ → Steps → Step → Option ℕ
own_concerned me steps (Ordered item) = Some me
own_concerned me steps (Arrived frame) = Some (sender_in (own_given_copies me steps frame.from) frame.body)
own_concerned me steps _ = None

abbrev pub own_turns : Config → ℕ → Steps → Step → Option ℕ → List Message
own_turns config me steps step None = []
own_turns config me steps step (Some s) =
    messages_from (held me (step ∷ steps)) s (own_next config me steps s) (own_next config me (step ∷ steps) s)

-- the messages that a step after these delivers
unfoldable pub own_deliveries : Config → ℕ → Steps → Step → List Message
own_deliveries config me steps step = own_turns config me steps step (own_concerned me steps step)

-- all that it delivered, in order
unfoldable pub own_log : Config → ℕ → Steps → List Message
own_log config me [] = []
own_log config me (step ∷ steps) = own_log config me steps ++ own_deliveries config me steps step

-- none of these messages is a proposal of the sender in instance j
abbrev pub is_first_vote : ℕ → List Message → ℕ → Bool
is_first_vote j seen sender =
    not (list_any (λ message. message.sender == sender && is_some (value_in j message.item)) seen)

-- the values proposed in instance j by these messages, in order, if seen came before; a sender's second proposal is not
-- counted
unfoldable pub first_votes : ℕ → List Message → List Message → List ℕ
first_votes j seen [] = []
first_votes j seen (message ∷ messages) =
    (if is_first_vote j seen message.sender then votes j (message ∷ []) else [])
    ++ first_votes j (seen ++ message ∷ []) messages

abbrev pub own_decision_on : Config → List Message → Message → Item → List Decision
own_decision_on config log message (Propose instance value) =
    if is_first_vote instance log message.sender
    then decision_by config instance (first_votes instance [] (log ++ message ∷ [])) else []
own_decision_on config log message _ = []

-- the decisions due to these deliveries, one after another, if log was delivered before
unfoldable pub own_decisions_of : Config → List Message → List Message → List Decision
own_decisions_of config log [] = []
own_decisions_of config log (message ∷ messages) =
    own_decision_on config log message message.item ++ own_decisions_of config (log ++ message ∷ []) messages

-- what a step after these delivers and decides
unfoldable pub own_outcome : Config → ℕ → Steps → Step → Outcome
own_outcome config me steps step =
    let news = own_deliveries config me steps step in
    record { deliveries = news; decisions = own_decisions_of config (own_log config me steps) news }

-- what it decided in instance j
unfoldable pub own_decision : Config → ℕ → Steps → ℕ → Option ℕ
own_decision config me steps j =
    let values = first_votes j [] (own_log config me steps) in
    if nat_le (config.nodes - config.faults) (length values)
    then Some (least (take (config.nodes - config.faults) values)) else None

-- the message in a slot; if there is no such slot, the default, but no accepted step names such a slot
unfoldable pub message_in : List Held → ℕ → Message
message_in hs slot =
    (slice_index_or hs slot
    (record { message = record { sender = 0; number = 0; item = Close }; source = 0 })).message

-- the frame that a step after these makes
unfoldable pub own_made : ℕ → Steps → Step → List Frame
own_made me steps (Sent to slot) =
    record {
      from = me;
      seq = frame_count steps;
      to = to;
      body = Carry slot (message_in (own_given me steps to) slot);
    } ∷ []
own_made me steps (Acknowledged to slot) =
    record { from = me; seq = frame_count steps; to = to; body = Took slot } ∷ []
own_made me steps _ = []

-- the frames that it made, in order
unfoldable pub own_frames : ℕ → Steps → List Frame
own_frames me [] = []
own_frames me (step ∷ steps) = own_frames me steps ++ own_made me steps step

-- what the node shows after these steps
abbrev pub own_view : ℕ → Steps → NodeView
own_view me steps = record {
  live = own_live steps;
  stream = own_items steps;
  slots = λ to. length (own_given me steps to);
  has_acked = own_acked steps;
  has_taken = own_taken steps;
  frames = frame_count steps;
}

-- the refusal of a step after these
unfoldable pub own_fault : Config → ℕ → Steps → Step → Option StepFault
own_fault config me steps step = first_fault (step_causes config me (own_view me steps) step)

-- the answer to an accepted step
unfoldable pub own_answer : Config → ℕ → Steps → Step → Answer
own_answer config me steps (Ordered item) =
    AnswerOrdered (length (own_items steps)) (own_outcome config me steps (Ordered item))
own_answer config me steps (Sent to slot) = AnswerSent (frame_count steps)
own_answer config me steps (Acknowledged to slot) = AnswerSent (frame_count steps)
own_answer config me steps (Arrived frame) = AnswerArrived me (own_outcome config me steps (Arrived frame))
own_answer config me steps Stopped = Down

-- the reply to a step after these
unfoldable pub own_reply : Config → ℕ → Steps → Step → Result Answer StepFault
own_reply config me steps step = reply_by (own_fault config me steps step) (own_answer config me steps step)

-- the content of a frame is possible in a frame made for this node
abbrev pub is_possible_body : Config → ℕ → Steps → ℕ → FrameBody → Bool
is_possible_body config me steps from (Carry slot message) =
    nat_lt message.sender config.nodes && not (message.sender == me) && nat_lt message.number config.item_limit
    && nat_lt slot (config.nodes * config.item_limit)
is_possible_body config me steps from (Took slot) = nat_lt slot (length (own_given me steps from))

-- some node of a group could have made the frame for this node
unfoldable pub is_possible : Config → ℕ → Steps → Frame → Bool
is_possible config me steps frame =
    nat_lt frame.from config.nodes && not (frame.from == me)
    && is_possible_body config me steps frame.from frame.body

abbrev pub is_ignored : Config → ℕ → Steps → Step → Bool
is_ignored config me steps (Arrived frame) = not (is_possible config me steps frame)
is_ignored config me steps _ = false

abbrev pub nothing : Outcome
nothing = record { deliveries = []; decisions = [] }

-- the node's reply to any request after these steps; a frame that no node could have made changes nothing
unfoldable pub node_reply : Config → ℕ → Steps → Step → Result Answer StepFault
node_reply config me steps step =
    reply_by (own_fault config me steps step)
    (if is_ignored config me steps step then AnswerArrived me nothing else own_answer config me steps step)

-- the node's steps after that request
unfoldable pub node_after : Config → ℕ → Steps → Step → Steps
node_after config me steps step =
    if is_some (own_fault config me steps step) || is_ignored config me steps step then steps else step ∷ steps

-- no step is refused or skipped at its place
unfoldable pub IsOwnAccepted : Config → ℕ → Steps → Type 0
IsOwnAccepted config me [] = Unit {0}
IsOwnAccepted config me (step ∷ steps) =
    IsOwnAccepted config me steps × (own_fault config me steps step ≡ None)
    × (is_ignored config me steps step ≡ false)

-- the event after past is this step of the node
pub data IsStep (past : History) (me : ℕ) : Event → Step → Type 0 where
  orders : (item : Item) → IsStep past me (Order me item) (Ordered item)
  sends : (to slot : ℕ) → IsStep past me (Send me to slot) (Sent to slot)
  acknowledges : (to slot : ℕ) → IsStep past me (Ack me to slot) (Acknowledged to slot)
  takes : (from seq : ℕ) (frame : Frame) → slice_get (frames past from) seq ≡ Some frame → frame.to ≡ me
      → IsStep past me (Arrive from seq) (Arrived frame)
  stops : IsStep past me (Crash me) Stopped
