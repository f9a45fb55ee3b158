use Rattle.cast_run.proofs.Joined.{AreStarted}
use Rattle.cast_run.proofs.threads.start_all.Given as goal

abbrev pub invariant-loop-actor : goal.invariant-loop-actor
invariant-loop-actor g l =
    (goal.iterator-loop-actor g).can_next l.actor-iterator
    × (goal.iterator-loop-actor g).is_finite l.actor-iterator
    × AreStarted (λ t. t.promise.was.value) l.fn.actors.items l.yielded l.actor-iterator.rest.items l.threads
