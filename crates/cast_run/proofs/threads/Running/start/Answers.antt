use Rattle.cast_run.proofs.Still.{engine_self, carrier_self}
use Rattle.cast_run.proofs.threads.Running.start.Goals as goal

pub start_all-requires-clause-begun : goal.start_all-requires-clause-begun
start_all-requires-clause-begun g c lifetimes within i e at = engine_self e

pub start_all-requires-2-clause-begun : goal.start_all-requires-2-clause-begun
start_all-requires-2-clause-begun g c lifetimes within i e at = carrier_self e
