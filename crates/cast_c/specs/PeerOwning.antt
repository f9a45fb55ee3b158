-- What the pointer in a peer's handle owns: the peer and the right to free its block, if it holds one.
use Rattle.std.specs.Prelude.{Option, Some, None}
use Rattle.std.specs.Coded.{Coded, coded_option}
use Rattle.std.specs.Box.Ownership.{box_owns}
use Rattle.cast_c.specs.Freeing.{freeing}
use base.Fml.{Fml, ftrue}
use denote.RawPtr.{Ptr}
use Rattle.cast_peer.specs.contracts.peer.Peer.{the_row}

abbrev pub peer_owns : Ptr → Option the_row.Denot → Fml
peer_owns at (Some peer) = box_owns freeing the_row at peer
peer_owns at None = ftrue

-- how the logic stores such a value
abbrev pub peer_coded : Coded (Option the_row.Denot)
peer_coded = coded_option the_row.coded
