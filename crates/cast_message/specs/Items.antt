-- What an item is, what a frame says, and which numbers are those of nodes.
--     byte_sized n            the number, if it fits into a byte
--     is_close item           it is the last item of a stream
--     proposes_in j item      it proposes in instance j
--     has_bytes item          it is data with bytes; only these take memory in a copy, as they are shared and counted
--     kind_of body            the kind of a frame
--     carries_bytes body      the frame carries a message with such an item
--     orders_bytes event      the event orders such an item
use Rattle.std.specs.Prelude.{ℕ, ◌==◌, Bool, true, false, nat_lt, length, if◌then◌else◌, Option, Some, None}
use Rattle.cast_message.specs.declared.message.Item.{Item}
use Rattle.cast_message.specs.declared.message.Item.TheVariants.{Data, Propose, Close}
use Rattle.cast_message.specs.declared.message.FrameBody.{FrameBody}
use Rattle.cast_message.specs.declared.message.FrameBody.TheVariants as bodies
use Rattle.cast_message.specs.declared.event.Event.{Event}
use Rattle.cast_message.specs.declared.event.Event.TheVariants.{Order}
use Rattle.cast_message.specs.declared.message.FrameKind.{FrameKind}
use Rattle.cast_message.specs.declared.message.FrameKind.TheVariants.{Carry, Took}

abbrev pub byte_sized : ℕ → Option ℕ
byte_sized n = if nat_lt n 256 then Some n else None

abbrev pub is_close : Item → Bool
is_close Close = true
is_close _ = false

abbrev pub proposes_in : ℕ → Item → Bool
proposes_in j (Propose instance value) = instance == j
proposes_in j _ = false

abbrev pub has_bytes : Item → Bool
has_bytes (Data payload) = nat_lt 0 (length payload)
has_bytes _ = false

abbrev pub kind_of : FrameBody → FrameKind
kind_of (bodies.Carry slot message) = Carry
kind_of (bodies.Took slot) = Took

abbrev pub carries_bytes : FrameBody → Bool
carries_bytes (bodies.Carry slot message) = has_bytes message.item
carries_bytes (bodies.Took slot) = false

abbrev pub orders_bytes : Event → Bool
orders_bytes (Order node item) = has_bytes item
orders_bytes _ = false
