-- The jobs so far are new, and with those that are left they are the script's.
use Rattle.std.proofs.Common.{◌≡◌, ◌++◌, map}
use Rattle.cast_live.specs.Live.{AreNewJobs, items_of}
use Rattle.cast_live.proofs.live.submit_all.Given as goal

abbrev pub invariant-loop-node : goal.invariant-loop-node
invariant-loop-node l =
    goal.iterator-loop-node.can_next l.node-iterator
    × goal.iterator-loop-node.is_finite l.node-iterator
    × AreNewJobs l.all.items
    × (map items_of l.all.items ++ l.node-iterator.rest.items ≡ l.fn.jobs)
