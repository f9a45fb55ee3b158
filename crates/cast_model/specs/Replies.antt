-- Which events are accepted, and how they are answered.
--     fault config past event      the first refusal whose cause holds after past
--     reply config past event      the answer or the refusal
--     history config events        the accepted ones of these events, the newest first
--     accepted config events       the same in order
--     replies config events        the replies in order
use Rattle.std.specs.Prelude.{◌≡◌, ℕ, Bool, true, false, List, [], ◌∷◌, length, reverse, slice_get, Option, Some, None, Result, Ok, Err}
use Rattle.cast_message.specs.declared.config.Config.{Config}
use Rattle.cast_message.specs.declared.event.Event.{Event}
use Rattle.cast_message.specs.declared.event.Event.TheVariants.{Order, Send, Ack, Arrive, Crash}
use Rattle.cast_message.specs.declared.event.Answer.{Answer}
use Rattle.cast_message.specs.declared.event.Answer.TheVariants.{Ordered as AnswerOrdered, Sent as AnswerSent, Arrived as AnswerArrived, Down}
use Rattle.cast_message.specs.declared.event.StepFault.{StepFault}
use Rattle.cast_message.specs.declared.event.StepFault.TheVariants.{NoFrame, Memory}
use Rattle.cast_message.specs.declared.message.Frame.{Frame}
use Rattle.cast_model.specs.History.{History, stream, is_live, given, frames, acked, taken}
use Rattle.cast_model.specs.Delivery.{outcome}
use Rattle.cast_model.specs.Steps.{Ordered, Sent, Acknowledged, Arrived, Stopped}
use Rattle.cast_model.specs.Refusals.{Cause, NodeView, no_node, step_causes, first_fault}

-- what node p shows after past
abbrev pub view_of : History → ℕ → NodeView
view_of past p = record {
  live = is_live past p;
  stream = stream past p;
  slots = λ q. length (given past p q);
  has_acked = acked past p;
  has_taken = λ q slot. taken past q p slot;
  frames = length (frames past p);
}

-- the causes for an arrival; frame is the one that it names
abbrev pub causes_of_arrival : Config → History → Option Frame → List Cause
causes_of_arrival config past None = record { holds = true; refusal = NoFrame } ∷ []
causes_of_arrival config past (Some frame) = step_causes config frame.to (view_of past frame.to) (Arrived frame)

-- The causes for which an event after past is refused, in the order in which they are checked. First its node does not
-- exist; then come those for the step that it is at that node.
unfoldable pub causes : Config → History → Event → List Cause
causes config past (Order p item) = no_node config p ∷ step_causes config p (view_of past p) (Ordered item)
causes config past (Send p q slot) = no_node config p ∷ step_causes config p (view_of past p) (Sent q slot)
causes config past (Ack p q slot) =
    no_node config p ∷ step_causes config p (view_of past p) (Acknowledged q slot)
causes config past (Arrive from seq) =
    no_node config from ∷ causes_of_arrival config past (slice_get (frames past from) seq)
causes config past (Crash p) = no_node config p ∷ step_causes config p (view_of past p) Stopped

-- the refusal of an event after past
unfoldable pub fault : Config → History → Event → Option StepFault
fault config past event = first_fault (causes config past event)

abbrev pub target_of : Option Frame → ℕ
target_of None = 0
target_of (Some frame) = frame.to

-- the answer to an accepted event
unfoldable pub answer : Config → History → Event → Answer
answer config past (Order p item) = AnswerOrdered (length (stream past p)) (outcome config past (Order p item))
answer config past (Send p q slot) = AnswerSent (length (frames past p))
answer config past (Ack p q slot) = AnswerSent (length (frames past p))
answer config past (Arrive from seq) =
    AnswerArrived (target_of (slice_get (frames past from) seq)) (outcome config past (Arrive from seq))
answer config past (Crash p) = Down

abbrev pub reply_by : Option StepFault → Answer → Result Answer StepFault
reply_by None a = Ok a
reply_by (Some refusal) a = Err refusal

-- the reply to an event after past
unfoldable pub reply : Config → History → Event → Result Answer StepFault
reply config past event = reply_by (fault config past event) (answer config past event)

abbrev pub after_by : Option StepFault → History → Event → History
after_by None past event = event ∷ past
after_by (Some refusal) past event = past

-- the history after an event was tried
unfoldable pub after : Config → History → Event → History
after config past event = after_by (fault config past event) past event

unfoldable pub history_from : Config → History → List Event → History
history_from config past [] = past
history_from config past (event ∷ events) = history_from config (after config past event) events

-- the accepted ones of these events, the newest first
abbrev pub history : Config → List Event → History
history config events = history_from config [] events

-- the accepted ones of these events, in order
abbrev pub accepted : Config → List Event → List Event
accepted config events = reverse (history config events)

unfoldable pub replies_from : Config → History → List Event → List (Result Answer StepFault)
replies_from config past [] = []
replies_from config past (event ∷ events) =
    reply config past event ∷ replies_from config (after config past event) events

-- the replies to these events, in order
abbrev pub replies : Config → List Event → List (Result Answer StepFault)
replies config events = replies_from config [] events

-- no event of the history is refused at its place
unfoldable pub IsAccepted : Config → History → Type 0
IsAccepted config [] = Unit {0}
IsAccepted config (event ∷ past) = IsAccepted config past × (fault config past event ≡ None)

-- refused for its cause or, if there is none, for lack of memory
abbrev pub IsRefused : Option StepFault → StepFault → Type 0
IsRefused None refusal = refusal ≡ Memory
IsRefused (Some cause) refusal = refusal ≡ cause

-- the step ran out of memory
abbrev pub is_want_of_memory : Result Answer StepFault → Bool
is_want_of_memory (Err Memory) = true
is_want_of_memory _ = false
