-- A gate for each node so far.
use Rattle.std.proofs.Common.{◌≡◌, vec_len}
use Rattle.cast_engine.proofs.progress.CountingGate.for_nodes.Given as goal

abbrev pub invariant-loop-node : goal.invariant-loop-node
invariant-loop-node l = vec_len l.gates ≡ l.node
