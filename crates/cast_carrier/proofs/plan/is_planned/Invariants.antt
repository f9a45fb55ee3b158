use Rattle.std.proofs.Common.{take}
use Rattle.cast_carrier.specs.Plans.{ArePlanned}
use Rattle.cast_carrier.proofs.plan.is_planned.Given as goal

abbrev pub invariant-loop-fault : goal.invariant-loop-fault
invariant-loop-fault l = ArePlanned l.nodes (take l.fault-index l.faults)
