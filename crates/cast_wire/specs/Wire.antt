-- The bytes of a packet, and why bytes are not a packet. Numbers have eight bytes, the least first.
--     0 'c' 'g' 1 kind    4 group    12 stamp    20 from    21 to    22 seq    30 slot
--     of a carried message    38 sender    39 number    47 the bytes of the item
use Rattle.std.specs.Prelude.{ℕ, ◌==◌, Bool, not, ◌||◌, nat_lt, if◌then◌else◌, List, [], ◌∷◌, ◌++◌, length, Option, Some, None, slice_index_or}
use Rattle.std.specs.Int.{w64, to_le_bytes}
use Rattle.cast_message.specs.declared.message.Item.{Item}
use Rattle.cast_message.specs.declared.message.Item.TheVariants.{Data, Propose, Close}
use Rattle.cast_message.specs.declared.message.Message.{Message}
use Rattle.cast_message.specs.declared.message.FrameBody.{FrameBody}
use Rattle.cast_message.specs.declared.message.FrameBody.TheVariants.{Carry, Took}
use Rattle.cast_wire.specs.declared.packet.Packet.{Packet}
use Rattle.cast_wire.specs.declared.packet.WireFault.{WireFault}
use Rattle.cast_wire.specs.declared.packet.WireFault.TheVariants.{Foreign, Version, Kind, Short, Long}

abbrev pub number_bytes : ℕ → List ℕ
number_bytes n = to_le_bytes w64 n

abbrev pub item_kind : Item → ℕ
item_kind (Data bytes) = 1
item_kind (Propose instance value) = 2
item_kind Close = 3

abbrev pub item_bytes : Item → List ℕ
item_bytes (Data bytes) = bytes
item_bytes (Propose instance value) = number_bytes instance ++ number_bytes value
item_bytes Close = []

abbrev pub message_bytes : Message → List ℕ
message_bytes m = m.sender ∷ (number_bytes m.number ++ item_bytes m.item)

abbrev pub body_kind : FrameBody → ℕ
body_kind (Carry slot message) = item_kind message.item
body_kind (Took slot) = 0

abbrev pub body_bytes : FrameBody → List ℕ
body_bytes (Carry slot message) = number_bytes slot ++ message_bytes message
body_bytes (Took slot) = number_bytes slot

abbrev pub head_bytes : ℕ → ℕ → ℕ → ℕ → ℕ → ℕ → List ℕ
head_bytes kind group stamp from to seq =
    99 ∷ 103 ∷ 1 ∷ kind ∷ (number_bytes group ++ (number_bytes stamp ++ (from ∷ to ∷ number_bytes seq)))

abbrev pub packet_bytes : Packet → List ℕ
packet_bytes x =
    head_bytes (body_kind x.frame.body) x.group x.stamp x.frame.from x.frame.to x.frame.seq
    ++ body_bytes x.frame.body

-- the least and the greatest length of a packet of a kind
abbrev pub least_bytes : ℕ → ℕ
least_bytes kind = if kind == 0 then 38 else if kind == 2 then 63 else 47

abbrev pub most_bytes : ℕ → ℕ
most_bytes kind = if kind == 1 then 1071 else least_bytes kind

-- why bytes are not a packet: whether the cause holds, and the fault
pub record WireCause : Type 0 where
  pub holds : Bool
  pub fault : WireFault

unfoldable pub first_wire_fault : List WireCause → Option WireFault
first_wire_fault [] = None
first_wire_fault (cause ∷ causes) = if cause.holds then Some cause.fault else first_wire_fault causes

abbrev pub byte_at : List ℕ → ℕ → ℕ
byte_at bytes place = slice_index_or bytes place 0

-- the causes, in the order in which they are checked
unfoldable pub wire_causes : List ℕ → List WireCause
wire_causes bytes =
    record { holds = nat_lt (length bytes) 4; fault = Short }
    ∷ record { holds = not (byte_at bytes 0 == 99) || not (byte_at bytes 1 == 103); fault = Foreign }
    ∷ record { holds = not (byte_at bytes 2 == 1); fault = Version }
    ∷ record { holds = nat_lt 3 (byte_at bytes 3); fault = Kind }
    ∷ record { holds = nat_lt (length bytes) (least_bytes (byte_at bytes 3)); fault = Short }
    ∷ record { holds = nat_lt (most_bytes (byte_at bytes 3)) (length bytes); fault = Long }
    ∷ []

-- why bytes are not a packet, if they are not
abbrev pub wire_fault : List ℕ → Option WireFault
wire_fault bytes = first_wire_fault (wire_causes bytes)
