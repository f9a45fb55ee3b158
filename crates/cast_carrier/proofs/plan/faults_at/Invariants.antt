use Rattle.std.proofs.Common.{◌≡◌, take}
use Rattle.std.specs.List.{filter}
use Rattle.cast_carrier.specs.Plans.{is_at}
use Rattle.cast_carrier.proofs.plan.faults_at.Given as goal

abbrev pub invariant-loop-fault : goal.invariant-loop-fault
invariant-loop-fault l = l.own.items ≡ filter (is_at l.end l.node) (take l.fault-index l.faults)
