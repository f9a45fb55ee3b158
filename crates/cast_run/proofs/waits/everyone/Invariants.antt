use Rattle.cast_run.specs.Waits.{AreNewActors}
use Rattle.cast_run.proofs.waits.everyone.Given as goal

abbrev pub invariant-loop-node : goal.invariant-loop-node
invariant-loop-node l = AreNewActors l.node 0 l.all.items

abbrev pub invariant-loop-place : goal.invariant-loop-place
invariant-loop-place l = AreNewActors l.fn.nodes l.place l.all.items
