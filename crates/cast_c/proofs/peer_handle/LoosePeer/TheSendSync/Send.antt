-- The pointer to a peer may go to another thread, as what it owns may.
use Rattle.std.proofs.Common.{Option, Some, None}
use mir.Raw.{raw}
use base.Shift.{Keyless}
use denote.Memory.{lone}
use denote.RawPtr.{Ptr}
use denote.Struct.Struct.{exits_of}
use denote.Struct.Owning.{shape, fields, to}
use denote.Param.Send.{IsSend, AllSend, owning_send, struct_send, sendable}
use Rattle.std_alloc.proofs.SendSync.{quiet, lies}
use Rattle.std.proofs.Crossing.{frees}
use Rattle.cast_c.specs.Freeing.{heap}
use Rattle.cast_peer.specs.contracts.peer.Peer as Peer
use Rattle.cast_peer.proofs.peer.Peer.TheSendSync.{the_send as peer}
use Rattle.cast_c.specs.PeerOwning.{peer_owns}
use Rattle.cast_c.specs.contracts.peer_handle.LoosePeer.{the_row, the_type}

owned : (at : Ptr) (held : Option (Peer.the_row).Denot) → Keyless (peer_owns at held)
owned at (Some x) = (lies Peer.the_row peer at x, frees.frees heap (raw (lone Peer.the_row.mir)) at)
owned at None = tt

pub send : IsSend the_row
send =
    let all : AllSend (fields the_type) = (search sendable, tt) in
    owning_send the_type all (λ d. owned d.at d.peer)
    (λ k. quiet (to the_type) (exits_of k (fields the_type)) ((struct_send (shape the_type) all).leaving k))
