use Rattle.std.proofs.Common.{◌≡◌, take, None}
use Rattle.cast_carrier.specs.Plans.{crash_from}
use Rattle.cast_carrier.proofs.plan.crash_of.Given as goal

abbrev pub invariant-loop-fault : goal.invariant-loop-fault
invariant-loop-fault l = l.crash ≡ crash_from l.node None (take l.fault-index l.faults)
