-- What may happen next and yields something new, apart from orders and crashes.
--     is_possible config past event     the group would not refuse the event
--     makings d                  the frames of a due slot: one carries its message, one says that it was taken
--     arrivals_new past p        the arrivals of p's frames that yield something new: the target lives, and has not
--                                taken the slot that the frame carries, or owes the one that it acknowledges
--     offers config past         the frames of the due slots, then the arrivals that yield something new
--     enabled config past        those of them that are possible
--     HasFullNode config past    a live node has made all its frames
use Rattle.std.specs.Prelude.{ℕ, ◌≤◌, Bool, true, false, not, ◌&&◌, is_some, if◌then◌else◌, List, [], ◌∷◌, ◌++◌, length, slice_get, Option, Some, None}
use Rattle.std.specs.List.{filter, flat_map, range_with_len}
use Rattle.cast_message.specs.Limits.{frame_limit}
use Rattle.cast_message.specs.declared.config.Config.{Config}
use Rattle.cast_message.specs.declared.event.Event.{Event}
use Rattle.cast_message.specs.declared.event.Event.TheVariants.{Send, Ack, Arrive}
use Rattle.cast_message.specs.declared.event.StepFault.{StepFault}
use Rattle.cast_message.specs.declared.event.StepFault.TheVariants.{NotTaken, FramesFull}
use Rattle.cast_message.specs.declared.message.Frame.{Frame}
use Rattle.cast_message.specs.declared.message.FrameBody.{FrameBody}
use Rattle.cast_message.specs.declared.message.FrameBody.TheVariants.{Carry, Took}
use Rattle.cast_model.specs.History.{History, is_live, frames, taken, acked}
use Rattle.cast_model.specs.Delivery.{nodes_of}
use Rattle.cast_model.specs.Replies.{fault}
use Rattle.cast_model.specs.Rounds.{Due, Live, due}

abbrev pub is_possible : Config → History → Event → Bool
is_possible config past event = not (is_some (fault config past event))

abbrev pub makings : Due → List Event
makings d = Send d.from d.to d.slot ∷ Ack d.to d.from d.slot ∷ []

-- an acknowledgement is refused for this because the slot was not taken
abbrev pub is_untaken : Option StepFault → Bool
is_untaken (Some NotTaken) = true
is_untaken _ = false

-- the send of an owed slot is refused for nothing, or for this
abbrev pub is_owed : Option StepFault → Bool
is_owed None = true
is_owed (Some FramesFull) = true
is_owed _ = false

-- whether a frame's slot was not taken, or is owed
abbrev pub is_open : History → ℕ → ℕ → FrameBody → Bool
is_open past from to (Carry slot message) = not (taken past from to slot)
is_open past from to (Took slot) = not (acked past to from slot)

-- whether a frame that p made yields something new
abbrev pub brings_news : History → ℕ → Option Frame → Bool
brings_news past p None = false
brings_news past p (Some frame) = is_live past frame.to && is_open past p frame.to frame.body

abbrev pub arrival_new : History → ℕ → ℕ → List Event
arrival_new past p seq =
    if brings_news past p (slice_get (frames past p) seq) then Arrive p seq ∷ [] else []

abbrev pub arrivals_new : History → ℕ → List Event
arrivals_new past p = flat_map (arrival_new past p) (range_with_len 0 (length (frames past p)))

abbrev pub offers : Config → History → List Event
offers config past =
    flat_map makings (due config past) ++ flat_map (arrivals_new past) (nodes_of config)

abbrev pub enabled : Config → History → List Event
enabled config past = filter (is_possible config past) (offers config past)

abbrev pub HasFullNode : Config → History → Type 0
HasFullNode config past = (p : ℕ) × Live config past p × (frame_limit ≤ length (frames past p))
