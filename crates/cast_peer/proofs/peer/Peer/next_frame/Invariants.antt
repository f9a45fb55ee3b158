use Rattle.std.proofs.Common.{◌≡◌}
use Rattle.cast_peer.proofs.peer.Peer.next_frame.Given as goal

abbrev pub invariant-loop-peer : goal.invariant-loop-peer
invariant-loop-peer l = l.self.journal ≡ l.fn.self.journal
