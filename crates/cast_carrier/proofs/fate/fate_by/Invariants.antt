use Rattle.std.proofs.Common.{◌≡◌, take}
use Rattle.cast_carrier.specs.Fates.{fate_by}
use Rattle.cast_carrier.proofs.fate.fate_by.Given as goal

abbrev pub invariant-loop-fault : goal.invariant-loop-fault
invariant-loop-fault l = l.fate ≡ fate_by l.frame (take l.fault-index l.faults)
