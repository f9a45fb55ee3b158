use Rattle.std.proofs.Common.{◌≡◌, replicate}
use Rattle.std.specs.FinSet as set
use Rattle.cast_node.specs.Sound.{slots_of}
use Rattle.cast_node.proofs.node.Node.make.Given as goal

abbrev pub invariant-loop-peer : goal.invariant-loop-peer
invariant-loop-peer l = slots_of l.incoming.items ≡ replicate l._peer set.empty
