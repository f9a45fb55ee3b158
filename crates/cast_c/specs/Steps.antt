-- What the exports of a group say.
--     numbers_of_reply, numbers_of_outcome   a reply as numbers; what a step delivers and decides
--     only_number code number                a reply that delivers and decides nothing
--     status_of_reply, status_of_round       5 if memory ran out, otherwise 0
--     IsStep old event status told new       after the event, the status, the numbers of the reply, and the new group
--     IsStepBy old numbers bytes status told new    the same for an event given as numbers and bytes
--     IsFault old event code                 the number of the refusal of an event, or 0
--     IsFaultBy old numbers bytes status code       the same for an event given as numbers and bytes, with the status
--     IsRound old status told new            the clauses of a round, with its status
--     numbers_of_item, bytes_of, PutsItem    an item as numbers and bytes, and its bytes in a buffer
--     CountsDelivered, TellsItem             what the readers say about the deliveries
--     shown_by, decision_by                  a number, if the status is 0; a value, if one was found
use Rattle.std.specs.Prelude.{◌≡◌, ◌⊎◌, ℕ, ◌<◌, ◌≤◌, ◌==◌, ◌++◌, max, Bool, true, false, List, [], ◌∷◌, length, drop, map, slice_get, Option, None, Some, Result, Ok, Err, IfOk, OnErr, IsSomeAnd, if◌then◌else◌}
use Rattle.cast_message.specs.StepCode.{step_code}
use Rattle.cast_message.specs.declared.config.Config.{Config}
use Rattle.cast_message.specs.declared.event.Answer.{Answer}
use Rattle.cast_message.specs.declared.event.Answer.TheVariants.{Ordered, Sent, Arrived, Down}
use Rattle.cast_message.specs.declared.event.Event.{Event}
use Rattle.cast_message.specs.declared.event.Outcome.{Outcome}
use Rattle.cast_message.specs.declared.event.StepFault.{StepFault}
use Rattle.cast_message.specs.declared.event.StepFault.TheVariants.{Memory}
use Rattle.cast_message.specs.declared.message.Item.{Item}
use Rattle.cast_message.specs.declared.message.Item.TheVariants.{Data, Propose, Close}
use Rattle.cast_message.specs.declared.message.Message.{Message}
use Rattle.cast_model.specs.Delivery.{delivered}
use Rattle.cast_model.specs.History.{History}
use Rattle.cast_model.specs.Replies.{IsAccepted, fault, reply}
use Rattle.cast_model.specs.Rounds.{Rest, AreAccepted, HoldTheSame, after_round, plan}
use Rattle.cast_model.specs.Shown.{item_of}
use Rattle.cast_world.specs.Group.{State, Stands, StandingFor, Continues, IsFar, IsCrash, IsRefusedForCause}
use Rattle.cast_world.specs.Rounds.{TakesRound, Spreads}
use Rattle.cast_c.specs.Numbers.{event_in, orders_bytes}
use Rattle.cast_c.specs.declared.numbers.EventNumbers.{EventNumbers}
use Rattle.cast_c.specs.declared.numbers.ItemNumbers.{ItemNumbers}
use Rattle.cast_c.specs.declared.numbers.ReplyNumbers.{ReplyNumbers}

abbrev pub only_number : ℕ → ℕ → ReplyNumbers
only_number code number = record {
  code = code;
  number = number;
  sender = 0;
  first = 0;
  deliveries = 0;
  decisions = 0;
}

-- 0 if there is no message
abbrev pub sender_of : List Message → ℕ
sender_of [] = 0
sender_of (message ∷ rest) = message.sender

abbrev pub first_of : List Message → ℕ
first_of [] = 0
first_of (message ∷ rest) = message.number

abbrev pub numbers_of_outcome : ℕ → Outcome → ReplyNumbers
numbers_of_outcome number outcome = record {
  code = 0;
  number = number;
  sender = sender_of outcome.deliveries;
  first = first_of outcome.deliveries;
  deliveries = length outcome.deliveries;
  decisions = length outcome.decisions;
}

abbrev pub numbers_of_answer : Answer → ReplyNumbers
numbers_of_answer (Ordered number outcome) = numbers_of_outcome number outcome
numbers_of_answer (Sent seq) = only_number 0 seq
numbers_of_answer (Arrived node outcome) = numbers_of_outcome node outcome
numbers_of_answer Down = only_number 0 0

abbrev pub numbers_of_reply : Result Answer StepFault → ReplyNumbers
numbers_of_reply (Ok answer) = numbers_of_answer answer
numbers_of_reply (Err fault) = only_number (step_code fault) 0

abbrev pub status_of_reply : Result Answer StepFault → ℕ
status_of_reply (Err Memory) = 5
status_of_reply reply = 0

-- the clauses of the call
pub record IsStep (old : State) (event : Event) (status : ℕ) (told : ReplyNumbers) (new : State)
    : Type 0 where
  pub made : Result Answer StepFault
  pub by_status : status ≡ status_of_reply made
  pub numbers : told ≡ numbers_of_reply made
  pub stands : StandingFor old (λ config past. Continues config past event made new)
  pub err : OnErr made (new ≡ old)
  pub far : StandingFor old (λ config past.
      IsFar event → IsRefusedForCause config past event made)
  pub sure : StandingFor old (λ config past.
      IsCrash event → made ≡ reply config past event)

-- the same for an event given as numbers and bytes; they may give no event, or memory may run out for the bytes that it
-- orders
abbrev pub IsStepOf : State → Option Event → ℕ → ReplyNumbers → State → Type 0
IsStepOf old None status told new = ((status ≡ 1) ⊎ (status ≡ 5)) × (new ≡ old)
IsStepOf old (Some event) status told new =
    ((status ≡ 5) × (orders_bytes event ≡ true) × (new ≡ old)) ⊎ IsStep old event status told new

abbrev pub IsStepBy : State → EventNumbers → List ℕ → ℕ → ReplyNumbers → State → Type 0
IsStepBy old numbers bytes status told new = IsStepOf old (event_in numbers bytes) status told new

abbrev pub code_of : Option StepFault → ℕ
code_of None = 0
code_of (Some fault) = step_code fault

-- the number of the refusal, or 0
abbrev pub IsFault : State → Event → ℕ → Type 0
IsFault old event code = StandingFor old (λ config past. code ≡ code_of (fault config past event))

-- the same for an event given as numbers and bytes
abbrev pub IsFaultOf : State → Option Event → ℕ → ℕ → Type 0
IsFaultOf old None status code = (status ≡ 1) ⊎ (status ≡ 5)
IsFaultOf old (Some event) status code =
    ((status ≡ 5) × (orders_bytes event ≡ true)) ⊎ ((status ≡ 0) × IsFault old event code)

abbrev pub IsFaultBy : State → EventNumbers → List ℕ → ℕ → ℕ → Type 0
IsFaultBy old numbers bytes status code = IsFaultOf old (event_in numbers bytes) status code

abbrev pub numbers_of_round : Result ℕ StepFault → ReplyNumbers
numbers_of_round (Ok frames) = only_number 0 frames
numbers_of_round (Err fault) = only_number (step_code fault) 0

abbrev pub status_of_round : Result ℕ StepFault → ℕ
status_of_round (Err Memory) = 5
status_of_round made = 0

-- the clauses of the call
pub record IsRound (old : State) (status : ℕ) (told : ReplyNumbers) (new : State) : Type 0 where
  pub made : Result ℕ StepFault
  pub by_status : status ≡ status_of_round made
  pub numbers : told ≡ numbers_of_round made
  pub takes : StandingFor old (λ config past. TakesRound config past made new)
  pub spreads : StandingFor old (λ config past. IfOk made (λ _. Spreads config past))
  pub rests : StandingFor old (λ config past. HoldTheSame config past →
      IfOk made (λ _. Rest config (after_round config past)))
  pub second : (config : Config) (past : History) → IsAccepted config past →
      AreAccepted config past (plan config past) → Stands config (after_round config past) old →
      IfOk made (λ _. Rest config (after_round config (after_round config past)))

abbrev pub numbers_of_item : Item → ItemNumbers
numbers_of_item (Data bytes) = record { kind = 0; length = length bytes; instance = 0; value = 0 }
numbers_of_item (Propose instance value) =
    record { kind = 1; length = 0; instance = instance; value = value }
numbers_of_item Close = record { kind = 2; length = 0; instance = 0; value = 0 }

abbrev pub bytes_of : Item → List ℕ
bytes_of (Data bytes) = bytes
bytes_of _ = []

-- the bytes are at the front of the buffer, or it has no room for them
pub record Puts (bytes : List ℕ) (status : ℕ) (old new : List ℕ) : Type 0 where
  pub done : status ≡ 0 → new ≡ bytes ++ drop (length bytes) old
  pub short : status ≡ 6 → (length old < length bytes) × (new ≡ old)
  pub known : (status ≡ 0) ⊎ (status ≡ 6)

abbrev pub PutsItem : Item → ℕ → List ℕ → List ℕ → Type 0
PutsItem item status old new = Puts (bytes_of item) status old new

-- the items that q delivered from s
abbrev pub delivered_items : Config → History → ℕ → ℕ → List Item
delivered_items config past q s = map item_of (delivered config past q s)

pub record CountsDelivered (config : Config) (past : History) (q s status count : ℕ)
    : Type 0 where
  pub counted : status ≡ 0 → (max q s < config.nodes) × (count ≡ length (delivered_items config past q s))
  pub none : status ≡ 2 → config.nodes ≤ max q s
  pub known : (status ≡ 0) ⊎ (status ≡ 2)

-- the item with this number is reported, and its bytes are put; or there is no such item
pub record TellsItem (config : Config) (past : History) (q s number status : ℕ)
    (told : ItemNumbers) (old new : List ℕ) : Type 0 where
  pub told_item : (status ≡ 0) ⊎ (status ≡ 6) →
      IsSomeAnd (slice_get (delivered_items config past q s) number)
      (λ item. (told ≡ numbers_of_item item) × PutsItem item status old new)
  pub none : status ≡ 2 →
      (config.nodes ≤ max q s) ⊎ (slice_get (delivered_items config past q s) number ≡ None)
  pub known : (status ≡ 0) ⊎ (status ≡ 2) ⊎ (status ≡ 6)

abbrev pub shown_by : ℕ → ℕ → Option ℕ
shown_by status count = if status == 0 then Some count else None

abbrev pub decision_by : Bool → ℕ → Option ℕ
decision_by true value = Some value
decision_by false value = None
