use Rattle.std.proofs.Common.{◌≡◌, ◌++◌, length}
use Rattle.cast_run.proofs.prepared.add_gates.Given as goal

abbrev pub invariant-loop-engine : goal.invariant-loop-engine
invariant-loop-engine g l =
    (goal.iterator-loop-engine g).can_next l.engine-iterator
    × (goal.iterator-loop-engine g).is_finite l.engine-iterator
    × (l.fn.engines.items ≡ l.yielded ++ l.engine-iterator.rest.items)
    × (l.actors.items ≡ l.yielded)
    × (length l.gates.rest.items ≡ length l.engine-iterator.rest.items)
