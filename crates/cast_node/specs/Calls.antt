-- What a node's calls return, as the answers of steps.
--     is_peer kept q          another node
--     may_carry kept slot s i      a peer could carry this pair in this slot
--     carry_slot slot s i item     what a frame says that carries the message with these numbers
--     carried_frame me from ..     the frame to this node that carries the message with these numbers; took_frame: the
--                                  acknowledgement of a slot
--     asked_reply result           the answer to an order that is not refused; only memory can be lacking
--     silent_reply me              the answer to an arrival that delivers and decides nothing
use Rattle.std.specs.Prelude.{ℕ, ◌*◌, ◌==◌, nat_lt, Bool, not, ◌&&◌, Result, Ok, Err}
use Rattle.cast_message.specs.declared.event.Outcome.{Outcome}
use Rattle.cast_message.specs.declared.event.Answer.{Answer}
use Rattle.cast_message.specs.declared.event.Answer.TheVariants.{Ordered, Sent, Arrived, Down}
use Rattle.cast_message.specs.declared.event.StepFault.{StepFault}
use Rattle.cast_message.specs.declared.event.StepFault.TheVariants.{Memory}
use Rattle.cast_message.specs.declared.message.Frame.{Frame}
use Rattle.cast_message.specs.declared.message.Item.{Item}
use Rattle.cast_message.specs.declared.message.FrameBody.{FrameBody}
use Rattle.cast_message.specs.declared.message.FrameBody.TheVariants.{Carry, Took}
use Rattle.cast_model.specs.OwnSteps.{nothing}
use Rattle.cast_node.specs.declared.node.Numbers.{Numbers}
use Rattle.cast_node.specs.Kept.{Kept}

-- another node
abbrev pub is_peer : Kept → ℕ → Bool
is_peer kept q = nat_lt q kept.config.nodes && not (q == kept.me)

-- a pair that a peer could carry in a slot
abbrev pub may_carry : Kept → ℕ → ℕ → ℕ → Bool
may_carry kept slot sender number =
    is_peer kept sender
    && (nat_lt number kept.config.item_limit
    && nat_lt slot (kept.config.nodes * kept.config.item_limit))

abbrev pub carry_slot : ℕ → ℕ → ℕ → Item → FrameBody
carry_slot slot sender number item =
    Carry slot (record { sender = sender; number = number; item = item })

abbrev pub carried_frame : ℕ → ℕ → ℕ → ℕ → ℕ → ℕ → Item → Frame
carried_frame me from seq slot sender number item =
    record { from = from; seq = seq; to = me; body = carry_slot slot sender number item }

abbrev pub ordered_reply : Result (ℕ × Outcome) StepFault → Result Answer StepFault
ordered_reply (Ok told) = Ok (Ordered told.0 told.1)
ordered_reply (Err refusal) = Err refusal

abbrev pub took_frame : ℕ → ℕ → ℕ → ℕ → Frame
took_frame me from seq slot = record { from = from; seq = seq; to = me; body = Took slot }

abbrev pub asked_reply : {E : Type 0} → Result (ℕ × Outcome) E → Result Answer StepFault
asked_reply (Ok told) = Ok (Ordered told.0 told.1)
asked_reply (Err wanting) = Err Memory

abbrev pub sent_reply : Result Frame StepFault → Result Answer StepFault
sent_reply (Ok frame) = Ok (Sent frame.seq)
sent_reply (Err refusal) = Err refusal

abbrev pub number_reply : Result ℕ StepFault → Result Answer StepFault
number_reply (Ok seq) = Ok (Sent seq)
number_reply (Err refusal) = Err refusal

abbrev pub numbered_reply : Result Numbers StepFault → Result Answer StepFault
numbered_reply (Ok sent) = Ok (Sent sent.seq)
numbered_reply (Err refusal) = Err refusal

abbrev pub arrived_reply : ℕ → Result Outcome StepFault → Result Answer StepFault
arrived_reply me (Ok outcome) = Ok (Arrived me outcome)
arrived_reply me (Err refusal) = Err refusal

-- nothing is delivered or decided
abbrev pub silent_reply : ℕ → Result Answer StepFault
silent_reply me = Ok (Arrived me nothing)

abbrev pub crashed_reply : Result Unit StepFault → Result Answer StepFault
crashed_reply (Ok done) = Ok Down
crashed_reply (Err refusal) = Err refusal
