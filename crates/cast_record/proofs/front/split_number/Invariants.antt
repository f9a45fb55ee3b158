use Rattle.std.proofs.Common.{◌-◌, length}
use Rattle.cast_record.specs.Fronts.{IsNumberSoFar}
use Rattle.cast_record.proofs.front.split_number.Given as goal

abbrev pub invariant-loop-at : goal.invariant-loop-at
invariant-loop-at l = IsNumberSoFar l.bytes l.at l.value

abbrev pub decreases-loop-at : goal.decreases-loop-at
decreases-loop-at l = length l.bytes - l.at
