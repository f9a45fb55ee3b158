use Rattle.std.proofs.Common.{◌≡◌, ℕ, ◌&&◌, nat_lt}
use Rattle.std.specs.FinSet as set
use Rattle.cast_node.specs.Giving.{bare}
use Rattle.cast_node.proofs.Owing.{is_owed}
use Rattle.cast_node.proofs.giving.owed_peers.Given as goal

abbrev pub invariant-loop-peer : goal.invariant-loop-peer
invariant-loop-peer l = (q : ℕ) → set.contains l.owed q ≡ (nat_lt q l.peer && is_owed (bare l.links) q)
