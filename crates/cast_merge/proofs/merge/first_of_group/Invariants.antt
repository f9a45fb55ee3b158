-- The first so far.
use Rattle.std.proofs.Common.{◌+◌, ◌*◌, ◌<◌}
use Rattle.cast_merge.specs.Fronts.{FirstIn}
use Rattle.cast_merge.proofs.merge.first_of_group.Given as goal

abbrev pub invariant-loop-place : goal.invariant-loop-place
invariant-loop-place l = FirstIn l.fronts (l.group * 8) l.place l.first × (l.first.place < l.group * 8 + 8)
