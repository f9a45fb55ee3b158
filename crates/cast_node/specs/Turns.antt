-- How a step changes what a node keeps, and its answer.
--     with_knower kept s i r         r is known to hold the pair
--     taken_up kept message source   the message is given on, held back and known
--     told kept s i members          these are known to hold the pair: what is then delivered, decided and kept
--     kept_fault kept step           why a step is refused
--     kept_answer, kept_after        otherwise the answer, and what is then kept
--     frame_made kind kept to slot   the frame of this kind that a node makes for a slot
--     may_arrive kept frame          some node could have made the frame for this one
--     may_want kept frame            the same, and the frame may change something, so memory may run out
--     Gives kept step reply new      both: after a step with this reply, the node keeps the new
use Rattle.std.specs.Prelude.{◌≡◌, ℕ, ◌+◌, ◌*◌, ◌==◌, nat_lt, Bool, true, false, not, ◌&&◌, if◌then◌else◌, List, [], ◌∷◌, ◌++◌, length, slice_set, Option, Some, None, unwrap_or, Result, Ok, Err}
use Rattle.std.specs.Ordering.{nat_cmp}
use Rattle.std.specs.FinSet as set
use Rattle.std.specs.FinMap as finite
use Rattle.cast_message.specs.declared.event.Outcome.{Outcome}
use Rattle.cast_message.specs.declared.event.Answer.{Answer}
use Rattle.cast_message.specs.declared.event.Answer.TheVariants.{Ordered as AnswerOrdered, Sent as AnswerSent, Arrived as AnswerArrived, Down}
use Rattle.cast_message.specs.declared.event.StepFault.{StepFault}
use Rattle.cast_message.specs.declared.message.Item.{Item}
use Rattle.cast_message.specs.declared.message.Item.TheVariants.{Close}
use Rattle.cast_message.specs.declared.message.Message.{Message}
use Rattle.cast_message.specs.declared.message.Frame.{Frame}
use Rattle.cast_message.specs.declared.message.FrameBody.{FrameBody}
use Rattle.cast_message.specs.declared.message.FrameBody.TheVariants.{Carry, Took}
use Rattle.cast_message.specs.declared.message.FrameKind.{FrameKind}
use Rattle.cast_message.specs.declared.message.FrameKind.TheVariants as kinds
use Rattle.cast_model.specs.Refusals.{Cause, NodeView, step_causes, first_fault}
use Rattle.cast_model.specs.Replies.{IsRefused}
use Rattle.cast_model.specs.Steps.{Step, Ordered, Sent, Acknowledged, Arrived, Stopped}
use Rattle.cast_model.specs.OwnSteps.{nothing}
use Rattle.cast_link.specs.Links.{Link, with_acknowledged}
use Rattle.cast_node.specs.Giving.{given_on}
use Rattle.cast_node.specs.Kept.{Kept, link_to, taken_from, knowers_of, holds}
use Rattle.cast_node.specs.Delivering.{first_members, told_in, outcome_in, waiting_in}

-- given to each peer, from number q on, to which it goes
abbrev pub given_from : ℕ → ℕ → ℕ → Message → List (Link Message) → List (Link Message)
given_from q me source message links = given_on q me source message.sender message links

-- a message that wasn't held is given on and held back
abbrev pub spread : Kept → Message → ℕ → Kept
spread kept message source = record kept {
  outgoing = given_from 0 kept.me source message kept.outgoing;
  deliveries = waiting_in kept.deliveries message;
}

-- what is delivered and decided, and what is then kept
pub record Told : Type 0 where
  pub outcome : Outcome
  pub kept : Kept

abbrev pub unmoved : Kept → Told
unmoved kept = record { outcome = nothing; kept = kept }

-- these nodes are known to hold a pair that is held
abbrev pub told : Kept → ℕ → ℕ → set.FinSet nat_cmp → Told
told kept s i members = record {
  outcome = outcome_in kept.config kept.deliveries s i members;
  kept = record kept { deliveries = told_in kept.config kept.deliveries s i members };
}

-- one more node is known to hold it
abbrev pub told_more : Kept → ℕ → ℕ → ℕ → Told
told_more kept s i r = told kept s i (set.insert (knowers_of kept s i) r)

-- a message that wasn't held, from the node that sent it
abbrev pub taken_up : Kept → Message → ℕ → Told
taken_up kept message source =
    told (spread kept message source) message.sender message.number
    (first_members kept.me message.sender source)

abbrev pub own_message : Kept → Item → Message
own_message kept item = record { sender = kept.me; number = length kept.stream; item = item }

abbrev pub ordered : Kept → Item → Told
ordered kept item =
    taken_up (record kept { stream = kept.stream ++ item ∷ [] }) (own_message kept item) kept.me

abbrev pub with_taken : Kept → ℕ → ℕ → Kept
with_taken kept from slot =
    record kept { incoming = slice_set kept.incoming from (set.insert (taken_from kept from) slot) }

abbrev pub with_acked : Kept → ℕ → ℕ → Kept
with_acked kept from slot =
    let link = with_acknowledged (link_to kept from) slot in
    record kept { outgoing = slice_set kept.outgoing from link }

abbrev pub acknowledged : Kept → ℕ → ℕ → Option Message → Told
acknowledged kept from slot None = unmoved kept
acknowledged kept from slot (Some message) =
    told_more (with_acked kept from slot) message.sender message.number from

abbrev pub carried : Kept → ℕ → Message → Told
carried kept from message =
    if holds kept message.sender message.number
    then told_more kept message.sender message.number from
    else taken_up kept message from

abbrev pub arrived_body : Kept → ℕ → FrameBody → Told
arrived_body kept from (Carry slot message) = carried (with_taken kept from slot) from message
arrived_body kept from (Took slot) =
    acknowledged kept from slot (finite.get (link_to kept from).owed slot)

-- a frame made for this node could say this
abbrev pub may_bring : Kept → ℕ → FrameBody → Bool
may_bring kept from (Carry slot message) =
    nat_lt message.sender kept.config.nodes && not (message.sender == kept.me)
    && nat_lt message.number kept.config.item_limit
    && nat_lt slot (kept.config.nodes * kept.config.item_limit)
may_bring kept from (Took slot) = nat_lt slot (link_to kept from).given

-- it may change something; the acknowledgement of a slot that isn't owed changes nothing
abbrev pub may_tell : Kept → ℕ → FrameBody → Bool
may_tell kept from (Carry slot message) = true
may_tell kept from (Took slot) = finite.contains_key (link_to kept from).owed slot

-- some node of a group could have made the frame for this node
abbrev pub may_arrive : Kept → Frame → Bool
may_arrive kept frame =
    nat_lt frame.from kept.config.nodes && not (frame.from == kept.me)
    && may_bring kept frame.from frame.body

abbrev pub may_want : Kept → Frame → Bool
may_want kept frame = may_arrive kept frame && may_tell kept frame.from frame.body

abbrev pub arrived : Kept → Frame → Told
arrived kept frame =
    if may_arrive kept frame then arrived_body kept frame.from frame.body else unmoved kept

-- what the node shows
abbrev pub kept_view : Kept → NodeView
kept_view kept = record {
  live = kept.live;
  stream = kept.stream;
  slots = λ to. (link_to kept to).given;
  has_acked = λ to slot. not (finite.contains_key (link_to kept to).owed slot);
  has_taken = λ to slot. set.contains (taken_from kept to) slot;
  frames = kept.frames;
}

abbrev pub kept_causes : Kept → Step → List Cause
kept_causes kept step = step_causes kept.config kept.me (kept_view kept) step

-- the refusal of a step
unfoldable pub kept_fault : Kept → Step → Option StepFault
kept_fault kept step = first_fault (kept_causes kept step)

-- the answer to a step that isn't refused
abbrev pub kept_answer : Kept → Step → Answer
kept_answer kept (Ordered item) = AnswerOrdered (length kept.stream) (ordered kept item).outcome
kept_answer kept (Sent to slot) = AnswerSent kept.frames
kept_answer kept (Acknowledged to slot) = AnswerSent kept.frames
kept_answer kept (Arrived frame) = AnswerArrived kept.me (arrived kept frame).outcome
kept_answer kept Stopped = Down

-- what is then kept
abbrev pub kept_after : Kept → Step → Kept
kept_after kept (Ordered item) = (ordered kept item).kept
kept_after kept (Sent to slot) = record kept { frames = kept.frames + 1 }
kept_after kept (Acknowledged to slot) = record kept { frames = kept.frames + 1 }
kept_after kept (Arrived frame) = (arrived kept frame).kept
kept_after kept Stopped = record kept { live = false }

-- the message in an owed slot; a default if it isn't owed, but no accepted step names such a slot
abbrev pub message_owed : Kept → ℕ → ℕ → Message
message_owed kept to slot =
    unwrap_or (finite.get (link_to kept to).owed slot)
    (record { sender = 0; number = 0; item = Close })

-- the frame that a step makes
abbrev pub carry_of : Kept → ℕ → ℕ → Frame
carry_of kept to slot =
    let body = Carry slot (message_owed kept to slot) in
    record { from = kept.me; seq = kept.frames; to = to; body = body }

abbrev pub took_of : Kept → ℕ → ℕ → Frame
took_of kept to slot = record { from = kept.me; seq = kept.frames; to = to; body = Took slot }

abbrev pub frame_made : FrameKind → Kept → ℕ → ℕ → Frame
frame_made kinds.Carry kept to slot = carry_of kept to slot
frame_made kinds.Took kept to slot = took_of kept to slot

-- the answer to a step, and what is then kept; a refused step changes nothing
abbrev pub Gives : Kept → Step → Result Answer StepFault → Kept → Type 0
Gives kept step (Ok answer) new =
    (kept_fault kept step ≡ None) × (answer ≡ kept_answer kept step) × (new ≡ kept_after kept step)
Gives kept step (Err refusal) new = IsRefused (kept_fault kept step) refusal × (new ≡ kept)
