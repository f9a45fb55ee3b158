-- What a call of a peer does to its journal.
--     begun config me turns                   the journal of a node that did nothing
--     peer_code fault                         the number of a fault
--     bytes_of group x                        the bytes of a frame with its stamp
--     may_be_made config me frame             some other node could have made the frame for this one
--     Takes group old bytes new               the arrival of the frame with these bytes was logged
--     Drops fault old new                     what a refusal leaves
--     MakesFrame old kind to slot x new       a frame of this kind was made and logged
use Rattle.std.specs.Prelude.{◌≡◌, ℕ, ◌+◌, ◌*◌, ◌<◌, ◌==◌, Bool, true, not, ◌&&◌, nat_lt, List, [], None, ◌⊎◌, ⊤}
use Rattle.cast_message.specs.StepCode.{step_code}
use Rattle.cast_message.specs.declared.config.Config.{Config}
use Rattle.cast_message.specs.declared.message.Frame.{Frame}
use Rattle.cast_message.specs.declared.message.FrameBody.{FrameBody}
use Rattle.cast_message.specs.declared.message.FrameBody.TheVariants as bodies
use Rattle.cast_message.specs.declared.message.FrameKind.{FrameKind}
use Rattle.cast_model.specs.Steps.{Arrived, making}
use Rattle.cast_node.specs.Kept.{nothing_kept}
use Rattle.cast_node.specs.Turns.{frame_made}
use Rattle.cast_journal.specs.declared.parcel.Parcel.{Parcel}
use Rattle.cast_wire.specs.declared.packet.Packet.{Packet}
use Rattle.cast_wire.specs.declared.packet.WireFault.{WireFault}
use Rattle.cast_wire.specs.declared.packet.WireFault.TheVariants as wires
use Rattle.cast_wire.specs.Wire.{packet_bytes}
use Rattle.cast_wire.specs.Law.{HasNumbers}
use Rattle.cast_journal.specs.Journals.{JournalState, LogsStep, Halts}
use Rattle.cast_peer.specs.declared.fault.PeerFault.{PeerFault}
use Rattle.cast_peer.specs.declared.fault.PeerFault.TheVariants as faults
use Rattle.cast_peer.specs.declared.peer.NextPacket.{NextPacket}
use Rattle.cast_peer.specs.declared.peer.NextPacket.TheVariants as next
use Rattle.cast_peer.specs.declared.peer.Received.{Received}
use Rattle.cast_peer.specs.declared.peer.Received.TheVariants as received

-- a node that did nothing, with an empty log
abbrev pub begun : Config → ℕ → ℕ → JournalState
begun config me turns = record {
  config = config;
  node = nothing_kept config me;
  log = [];
  clock = config.first_stamp;
  crash = None;
  ended = None;
  turns = turns;
}

abbrev pub packet_of : ℕ → Parcel → Packet
packet_of group x = record { group = group; stamp = x.stamp; frame = x.frame }

abbrev pub parcel_in : Packet → Parcel
parcel_in packet = record { stamp = packet.stamp; frame = packet.frame }

abbrev pub bytes_of : ℕ → Parcel → List ℕ
bytes_of group x = packet_bytes (packet_of group x)

abbrev pub is_other : Config → ℕ → ℕ → Bool
is_other config me p = nat_lt p config.nodes && not (p == me)

abbrev pub may_be_brought : Config → ℕ → FrameBody → Bool
may_be_brought config me (bodies.Carry slot message) =
    is_other config me message.sender && nat_lt message.number config.item_limit
    && nat_lt slot (config.nodes * config.item_limit)
may_be_brought config me (bodies.Took slot) = true

-- some other node of the group could have made the frame for this one
abbrev pub may_be_made : Config → ℕ → Frame → Bool
may_be_made config me frame =
    is_other config me frame.from && may_be_brought config me frame.body

-- the arrival of this parcel was logged
abbrev pub TakesParcel : JournalState → Parcel → JournalState → Type 0
TakesParcel old x new =
    LogsStep old new (Arrived x.frame) None x.stamp × (x.frame.to ≡ old.node.me)

-- the arrival of the frame with these bytes was logged
pub record Takes (group : ℕ) (old : JournalState) (bytes : List ℕ) (new : JournalState) : Type 0 where
  pub x : Parcel
  pub is : bytes ≡ bytes_of group x
  pub takes : TakesParcel old x new
  pub numbers : HasNumbers (packet_of group x)

-- a parcel was taken by its arrival; or it was known, and nothing changed
abbrev pub TakesIn : JournalState → Parcel → Received → JournalState → Type 0
TakesIn old x received.Taken new = TakesParcel old x new
TakesIn old x received.Known new = new ≡ old

-- the same for the bytes of a packet that some other node of the group could have made
abbrev pub Receives : Config → ℕ → JournalState → List ℕ → Received → JournalState → Type 0
Receives config group old bytes received.Taken new =
    (t : Takes group old bytes new) × (may_be_made config old.node.me t.x.frame ≡ true)
Receives config group old bytes received.Known new = new ≡ old

abbrev pub wire_code : WireFault → ℕ
wire_code wires.Foreign = 1
wire_code wires.Version = 2
wire_code wires.Kind = 3
wire_code wires.Short = 4
wire_code wires.Long = 5
wire_code wires.Memory = 6

-- the number of a fault
abbrev pub peer_code : PeerFault → ℕ
peer_code (faults.Wire fault) = wire_code fault
peer_code faults.OtherGroup = 11
peer_code faults.NotForMe = 12
peer_code faults.LastStamp = 13
peer_code faults.Impossible = 14
peer_code faults.Ended = 15
peer_code (faults.Refused fault) = 20 + step_code fault

-- nothing changed, except that the log or the clock was found full if that is the fault
abbrev pub Drops : PeerFault → JournalState → JournalState → Type 0
Drops faults.Ended old new = Halts old new
Drops _ old new = new ≡ old

-- a frame of this kind was made and logged
abbrev pub MakesFrame : JournalState → FrameKind → ℕ → ℕ → Parcel → JournalState → Type 0
MakesFrame old kind to slot x new =
    LogsStep old new (making kind to slot) None old.clock
    × (x.frame ≡ frame_made kind old.node to slot) × (x.stamp ≡ new.clock)

abbrev pub MakesSome : JournalState → JournalState → Type 0
MakesSome old new =
    (kind : FrameKind) × (to : ℕ) × (slot : ℕ) × (x : Parcel) × MakesFrame old kind to slot x new

-- no step was logged, or a frame was made
abbrev pub LogsFrameAtMost : JournalState → JournalState → Type 0
LogsFrameAtMost old new = Halts old new ⊎ MakesSome old new

-- the entry that has the step of this packet is saved
abbrev pub IsSaved : ℕ → NextPacket → Type 0
IsSaved saved (next.Packet to entry) = entry < saved
IsSaved saved _ = ⊤
