use Rattle.std.proofs.Common.{◌≡◌, length}
use Rattle.cast_run.specs.Actors.{CameBack}
use Rattle.cast_run.specs.Fairly.{Past}
use Rattle.cast_run.proofs.Fair.{Goes}
use Rattle.cast_run.proofs.actors.run_by.Given as goal

abbrev pub invariant-loop : goal.invariant-loop
invariant-loop g l =
    CameBack g.J.ClientJob.fact l.fn.actors l.actors
    × (l.waits.steps ≡ l.counter)
    × (l.waits.longest ≡ l.fn.steps.longest_wait)
    × ((past : Past) × Goes l.fn.actors (length l.fn.actors.engines.items) (length l.fn.actors.jobs.items) l.actors l.waits past)
