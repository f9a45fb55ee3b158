-- What the exports for exploring a group say.
--     numbers_of_event event        an event as numbers, without the bytes of its item
--     numbers_of_frame frame        what a frame carries, as numbers
--     PutsAll told status count old new    how many there are, and all in the buffer if that has room
--     TellsEvents told status count old new    the same of events, or memory ran out
--     TellsFrame past p number status told    what p's frame with this number carries, or that it made none
use Rattle.std.specs.Prelude.{◌≡◌, ◌⊎◌, ℕ, ◌<◌, ◌++◌, List, length, drop, map, slice_get, None, IsSomeAnd}
use Rattle.cast_message.specs.declared.event.Event.{Event}
use Rattle.cast_message.specs.declared.event.Event.TheVariants.{Order, Send, Ack, Arrive, Crash}
use Rattle.cast_message.specs.declared.message.Frame.{Frame}
use Rattle.cast_message.specs.declared.message.FrameBody.{FrameBody}
use Rattle.cast_message.specs.declared.message.FrameBody.TheVariants.{Carry, Took}
use Rattle.cast_message.specs.declared.message.Item.{Item}
use Rattle.cast_message.specs.declared.message.Item.TheVariants.{Data, Propose, Close}
use Rattle.cast_model.specs.History.{History, frames}
use Rattle.cast_c.specs.declared.numbers.EventNumbers.{EventNumbers}
use Rattle.cast_c.specs.declared.numbers.FrameNumbers.{FrameNumbers}

abbrev pub step_numbers : ℕ → ℕ → ℕ → ℕ → EventNumbers
step_numbers kind node to number =
    record { kind = kind; node = node; to = to; item = 0; number = number; value = 0 }

abbrev pub order_numbers : ℕ → Item → EventNumbers
order_numbers node (Data bytes) =
    record { kind = 0; node = node; to = 0; item = 0; number = 0; value = 0 }
order_numbers node (Propose instance value) =
    record { kind = 0; node = node; to = 0; item = 1; number = instance; value = value }
order_numbers node Close =
    record { kind = 0; node = node; to = 0; item = 2; number = 0; value = 0 }

abbrev pub numbers_of_event : Event → EventNumbers
numbers_of_event (Order node item) = order_numbers node item
numbers_of_event (Send from to slot) = step_numbers 1 from to slot
numbers_of_event (Ack from to slot) = step_numbers 2 from to slot
numbers_of_event (Arrive from seq) = step_numbers 3 from 0 seq
numbers_of_event (Crash node) = step_numbers 4 node 0 0

abbrev pub numbers_of_body : ℕ → FrameBody → FrameNumbers
numbers_of_body to (Carry slot message) =
    record { kind = 0; to = to; slot = slot; sender = message.sender; number = message.number }
numbers_of_body to (Took slot) = record { kind = 1; to = to; slot = slot; sender = 0; number = 0 }

abbrev pub numbers_of_frame : Frame → FrameNumbers
numbers_of_frame frame = numbers_of_body frame.to frame.body

-- they are at the front of the buffer, or it has no room for them
pub record PutsAll (told : List EventNumbers) (status count : ℕ) (old new : List EventNumbers)
    : Type 0 where
  pub counted : count ≡ length told
  pub done : status ≡ 0 → new ≡ told ++ drop (length told) old
  pub short : status ≡ 6 → (length old < length told) × (new ≡ old)
  pub known : (status ≡ 0) ⊎ (status ≡ 6)

-- the events are, or memory ran out
abbrev pub TellsEvents : List Event → ℕ → ℕ → List EventNumbers → List EventNumbers → Type 0
TellsEvents told status count old new =
    PutsAll (map numbers_of_event told) status count old new ⊎ ((status ≡ 5) × (new ≡ old))

pub record TellsFrame (past : History) (p number status : ℕ) (told : FrameNumbers) : Type 0 where
  pub found : status ≡ 0 → IsSomeAnd (slice_get (frames past p) number)
      (λ frame. told ≡ numbers_of_frame frame)
  pub none : status ≡ 2 → slice_get (frames past p) number ≡ None
  pub known : (status ≡ 0) ⊎ (status ≡ 2) ⊎ (status ≡ 5)
