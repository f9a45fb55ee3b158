-- The live ones of the nodes so far.
use Rattle.std.proofs.Common.{◌≡◌, ℕ}
use Rattle.std.specs.Prelude.{nat_lt, ◌&&◌}
use Rattle.std.specs.FinSet as set
use Rattle.cast_world.specs.Group.{node_at}
use Rattle.cast_world.proofs.world.World.live_nodes.Given as goal

abbrev pub invariant-loop-node : goal.invariant-loop-node
invariant-loop-node l = (q : ℕ) → set.contains l.live q ≡ (nat_lt q l.node && (node_at l.self q).live)
