-- Laws of all packets: no two have the same bytes, and none is refused.
use Rattle.std.specs.Prelude.{◌≡◌, ℕ, ◌<◌, ◌≤◌, ◌^◌, length, None, ⊤}
use Rattle.cast_message.specs.Limits.{payload_limit}
use Rattle.cast_message.specs.declared.message.Item.{Item}
use Rattle.cast_message.specs.declared.message.Item.TheVariants.{Data, Propose, Close}
use Rattle.cast_message.specs.declared.message.FrameBody.{FrameBody}
use Rattle.cast_message.specs.declared.message.FrameBody.TheVariants.{Carry, Took}
use Rattle.cast_wire.specs.declared.packet.Packet.{Packet}
use Rattle.cast_wire.specs.Wire.{packet_bytes, wire_fault}

abbrev pub IsNumber : ℕ → Type 0
IsNumber n = n < 2 ^ 64

abbrev pub HasItemNumbers : Item → Type 0
HasItemNumbers (Data bytes) = ⊤
HasItemNumbers (Propose instance value) = IsNumber instance × IsNumber value
HasItemNumbers Close = ⊤

abbrev pub HasBodyNumbers : FrameBody → Type 0
HasBodyNumbers (Carry slot message) =
    IsNumber slot × IsNumber message.number × HasItemNumbers message.item
HasBodyNumbers (Took slot) = IsNumber slot

-- its numbers are below 2^64, like those of every packet that a program has
pub record HasNumbers (x : Packet) : Type 0 where
  pub group : IsNumber x.group
  pub stamp : IsNumber x.stamp
  pub seq : IsNumber x.frame.seq
  pub body : HasBodyNumbers x.frame.body

-- its item is no longer than an item may be
abbrev pub FitsItem : Item → Type 0
FitsItem (Data bytes) = length bytes ≤ payload_limit
FitsItem _ = ⊤

abbrev pub FitsBody : FrameBody → Type 0
FitsBody (Carry slot message) = FitsItem message.item
FitsBody (Took slot) = ⊤

abbrev pub HaveBytesOfTheirOwn : Type 0
HaveBytesOfTheirOwn =
    (x y : Packet) → HasNumbers x → HasNumbers y → packet_bytes x ≡ packet_bytes y → x ≡ y

abbrev pub AreNeverRefused : Type 0
AreNeverRefused = (x : Packet) → FitsBody x.frame.body → wire_fault (packet_bytes x) ≡ None
