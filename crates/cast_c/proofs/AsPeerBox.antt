-- A peer's box, as the proofs about boxes name it.
use mathlib.Core.List.{[]}
use mir.Syntax.{impl, tnil, dnil}
use Rattle.std.proofs.BoxSteps.Form.{Bx}
use Rattle.std.specs.contracts.alloc.Global as heap
use Rattle.std.specs.contracts.impls.GlobalAllocator.TheImpl.{ghosts, dict}
use Rattle.std.proofs.alloc.Global.TheLaws as heap_laws
use Rattle.cast_peer.specs.contracts.peer.Peer as peer
use Rattle.cast_peer.proofs.peer.Peer.TheLaws as peer_laws

abbrev pub E : Bx
E = record { row = peer.the_row; laws = peer_laws.the_row_laws; al = record { row = heap.the_row; laws = heap_laws.the_row_laws; g = ghosts; d = dict; drops = impl [] tnil dnil } }
