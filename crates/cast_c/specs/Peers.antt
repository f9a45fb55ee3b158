-- What the exports of a peer say.
--     numbers_of_next, only_kind, ordered_as, numbers_of_message, numbers_of_decision   what it hands out, as numbers
--     status_of_fault fault               5 if memory ran out, otherwise 2
--     KeepsJournal old new                if there was a peer, there is one with the same node, log and clock
--     IsOrdered old item status new       the clauses of the call that takes an order
--     IsOrderedBy old numbers bytes status new    the same for an item given as numbers and bytes
--     IsNewPeer numbers group me peer     a peer with these numbers, which has done nothing
--     IsNoPeer numbers told               why there is no such peer, as a number
--     IsReceived old bytes status told new    the clauses of the call that takes what the network brought
--     GivesNext old room status told new  the clauses of the call that gives packets, with this much room for them
--     TellsNews old room status new       the clauses of the call that reports news, with this much room for its bytes
--     HasLine peer place is               whether the log has this line
--     TellsLine peer place status count old new    a line in a buffer, and how many bytes it has
use Rattle.std.specs.Prelude.{◌≡◌, ◌⊎◌, ◌↔◌, ℕ, ◌+◌, ◌-◌, ◌^◌, ◌<◌, ◌≤◌, min, Bool, List, length, Option, None, Some, Result, Ok, Err, IfOk, IfErr, IfNone, IfSome, IsSomeAnd, IsTrue}
use Rattle.cast_message.specs.declared.config.Config.{Config}
use Rattle.cast_message.specs.declared.event.StepFault.TheVariants as steps
use Rattle.cast_message.specs.declared.message.Decision.{Decision}
use Rattle.cast_message.specs.declared.message.Item.{Item}
use Rattle.cast_message.specs.declared.message.Message.{Message}
use Rattle.cast_journal.specs.Journals.{Halts, LogsOrder}
use Rattle.cast_wire.specs.declared.packet.WireFault.TheVariants as wires
use Rattle.cast_peer.specs.New.{IsNew}
use Rattle.cast_peer.specs.Peers.{Drops, LogsFrameAtMost, Receives, peer_code}
use Rattle.cast_peer.specs.declared.fault.PeerFault.{PeerFault}
use Rattle.cast_peer.specs.declared.fault.PeerFault.TheVariants as faults
use Rattle.cast_peer.specs.declared.peer.NextPacket.{NextPacket}
use Rattle.cast_peer.specs.declared.peer.NextPacket.TheVariants as next
use Rattle.cast_peer.specs.declared.peer.Peer.{Peer}
use Rattle.cast_peer.specs.declared.peer.Received.{Received}
use Rattle.cast_c.specs.Numbers.{IsOf, first_code, item_in}
use Rattle.cast_c.specs.Steps.{Puts}
use Rattle.cast_c.specs.declared.numbers.ConfigNumbers.{ConfigNumbers}
use Rattle.cast_c.specs.declared.numbers.EventNumbers.{EventNumbers}
use Rattle.cast_c.specs.declared.numbers.ItemNumbers.{ItemNumbers}
use Rattle.cast_c.specs.declared.peer_numbers.NewsNumbers.{NewsNumbers}
use Rattle.cast_c.specs.declared.peer_numbers.PacketNumbers.{PacketNumbers}

abbrev pub packet_kind : ℕ → PacketNumbers
packet_kind kind = record { kind = kind; to = 0; place = 0; length = 0 }

-- the line of an entry, as the head is line 0
abbrev pub line_of : ℕ → ℕ
line_of entry = min (entry + 1) (2 ^ 64 - 1)

abbrev pub numbers_of_next : NextPacket → ℕ → PacketNumbers
numbers_of_next (next.Packet to entry) count =
    record { kind = 0; to = to; place = line_of entry; length = count }
numbers_of_next next.Logged count = packet_kind 1
numbers_of_next next.Save count = packet_kind 2
numbers_of_next next.Nothing count = packet_kind 3

abbrev pub only_kind : ℕ → NewsNumbers
only_kind kind = record {
  kind = kind;
  sender = 0;
  number = 0;
  item = 0;
  length = 0;
  instance = 0;
  value = 0;
}

abbrev pub ordered_as : ℕ → NewsNumbers
ordered_as number = record (only_kind 1) { number = number }

abbrev pub numbers_of_message : Message → ItemNumbers → NewsNumbers
numbers_of_message message item = record {
  kind = 2;
  sender = message.sender;
  number = message.number;
  item = item.kind;
  length = item.length;
  instance = item.instance;
  value = item.value;
}

abbrev pub numbers_of_decision : Decision → NewsNumbers
numbers_of_decision decision =
    record (only_kind 3) { instance = decision.instance; value = decision.value }

abbrev pub status_of_fault : PeerFault → ℕ
status_of_fault (faults.Wire wires.Memory) = 5
status_of_fault (faults.Refused steps.Memory) = 5
status_of_fault _ = 2

abbrev pub KeepsJournal : Option Peer → Option Peer → Type 0
KeepsJournal old new =
    IfSome old (λ before. IsSomeAnd new (λ after. after.journal ≡ before.journal))

-- a peer with these numbers, which has done nothing
pub record IsNewPeer (numbers : ConfigNumbers) (group me : ℕ) (peer : Peer) : Type 0 where
  pub config : Config
  pub same : IsOf numbers config
  pub new : IsNew config group me peer

-- the first fault of the configuration, or else 21, as there is no such node
abbrev pub IsNoPeer : ConfigNumbers → ℕ → Type 0
IsNoPeer numbers told = IfNone (first_code numbers) (told ≡ 21)
    × IfSome (first_code numbers) (λ code. told ≡ code)

-- the number of the fault, if there is one
abbrev pub TellsFault : {T : Type 0} → Result T PeerFault → ℕ → Type 0
TellsFault made told = IfErr made (λ fault. told ≡ peer_code fault)

-- the clauses of the call
pub record IsOrdered (old : Peer) (item : Item) (status : ℕ) (new : Peer) : Type 0 where
  pub logs : Halts old.journal new.journal
      ⊎ LogsOrder old.journal new.journal (record { client = 0; ticket = old.orders; item = item })
  pub known : (status ≡ 0) ⊎ (status ≡ 2) ⊎ (status ≡ 5)

-- the same for an item, if the numbers give one; memory may run out for its bytes
abbrev pub IsOrderedOf : Peer → Option Item → ℕ → Peer → Type 0
IsOrderedOf old None status new = (status ≡ 1) × (new ≡ old)
IsOrderedOf old (Some item) status new =
    ((status ≡ 5) × (new ≡ old)) ⊎ IsOrdered old item status new

abbrev pub IsOrderedBy : Peer → EventNumbers → List ℕ → ℕ → Peer → Type 0
IsOrderedBy old numbers bytes status new = IsOrderedOf old (item_in numbers bytes) status new

abbrev pub status_of_received : Result Received PeerFault → ℕ
status_of_received (Ok received) = 0
status_of_received (Err fault) = status_of_fault fault

-- the clauses of the call
pub record IsReceived (old : Peer) (bytes : List ℕ) (status told : ℕ) (new : Peer) : Type 0 where
  pub made : Result Received PeerFault
  pub fault : TellsFault made told
  pub by_status : status ≡ status_of_received made
  pub ok : IfOk made (λ received.
      Receives old.config old.group old.journal bytes received new.journal)
  pub err : IfErr made (λ fault. Drops fault old.journal new.journal)

-- the clauses of the call; a packet that is given out has its line among those saved
pub record GivesNext (old : Peer) (room status : ℕ) (told : PacketNumbers) (new : Peer)
    : Type 0 where
  pub step : LogsFrameAtMost old.journal new.journal
  pub saved : status ≡ 0 → told.kind ≡ 0 → told.place ≤ new.saved
  pub short : room < 1071 → (status ≡ 6) × (new ≡ old)
  pub known : (status ≡ 0) ⊎ (status ≡ 5) ⊎ (status ≡ 6)

pub record TellsNews (old : Peer) (room status : ℕ) (new : Peer) : Type 0 where
  pub same : new.journal ≡ old.journal
  pub short : room < 1024 → (status ≡ 6) × (new ≡ old)
  pub known : (status ≡ 0) ⊎ (status ≡ 5) ⊎ (status ≡ 6)

-- line 0 is the head, and line n is the n-th entry
abbrev pub HasLine : Peer → ℕ → Bool → Type 0
HasLine peer place is = IsTrue is ↔ (place ≤ length peer.journal.log)

-- some line is put, if the log has one at this place
pub record TellsLine (peer : Peer) (place status count : ℕ) (old new : List ℕ) : Type 0 where
  pub put : (status ≡ 0) ⊎ (status ≡ 6) → (place ≤ length peer.journal.log)
      × ((line : List ℕ) × (count ≡ length line) × Puts line status old new)
  pub none : status ≡ 2 → (length peer.journal.log < place) × (new ≡ old)
  pub known : (status ≡ 0) ⊎ (status ≡ 2) ⊎ (status ≡ 5) ⊎ (status ≡ 6)
