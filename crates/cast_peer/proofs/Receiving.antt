-- What is taken of bytes is what stands in them.
use Rattle.std.proofs.Common.{◌≡◌, ℕ, List, true, sym, ap, ◌∙◌, subst}
use Rattle.std.specs.Prelude.{Result, Ok, Err, IfOk}
use Rattle.cast_message.specs.declared.config.Config.{Config}
use Rattle.cast_wire.specs.declared.packet.Packet.{Packet}
use Rattle.cast_wire.specs.Wire.{packet_bytes}
use Rattle.cast_wire.specs.Law.{HasNumbers}
use Rattle.cast_journal.specs.Journals.{JournalState}
use Rattle.cast_peer.specs.declared.fault.PeerFault.{PeerFault}
use Rattle.cast_peer.specs.declared.peer.Received.{Received}
use Rattle.cast_peer.specs.declared.peer.Received.TheVariants.{Taken, Known}
use Rattle.cast_peer.specs.Peers.{packet_of, parcel_in, may_be_made, TakesIn, Receives}

pub received : (config : Config) (group : ℕ) (old new : JournalState) (bytes : List ℕ) (packet : Packet) (result : Result Received PeerFault)
    → bytes ≡ packet_bytes packet → HasNumbers packet → packet.group ≡ group → may_be_made config old.node.me packet.frame ≡ true
    → IfOk result (λ r. TakesIn old (parcel_in packet) r new) → IfOk result (λ r. Receives config group old bytes r new)
received config group old new bytes packet (Ok Taken) exact numbers mine possible t =
    let is : packet ≡ packet_of group (parcel_in packet) = ap (λ g. packet_of g (parcel_in packet)) mine in
    (record { x = parcel_in packet; is = exact ∙ ap packet_bytes is; takes = t; numbers = subst HasNumbers is numbers }, possible)
received config group old new bytes packet (Ok Known) exact numbers mine possible t = t
received config group old new bytes packet (Err fault) exact numbers mine possible t = t
