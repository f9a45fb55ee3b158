use Rattle.std.proofs.Common.{◌≡◌, ◌<◌, ℕ, true}
use Rattle.std.specs.FinSet as set
use Rattle.cast_resend.proofs.peers.PeerSet.all.Given as goal

abbrev pub invariant-loop-node : goal.invariant-loop-node
invariant-loop-node l = (q : ℕ) → q < l.node → q < l.fn.nodes → set.contains l.all q ≡ true
