use Rattle.std.proofs.Common.{◌≡◌, ◌++◌, map, take, drop}
use Rattle.cast_carrier.specs.Carriers.{counted_down}
use Rattle.cast_carrier.proofs.carrier.count_down.Given as goal

abbrev pub invariant-loop-place : goal.invariant-loop-place
invariant-loop-place l = l.delayed.items ≡ map (counted_down l.fn.to) (take l.place l.fn.delayed.items) ++ drop l.place l.fn.delayed.items
