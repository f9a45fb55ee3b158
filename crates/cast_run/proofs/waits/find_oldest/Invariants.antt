use Rattle.std.proofs.Common.{◌<◌, length}
use Rattle.cast_run.specs.Waits.{IsOldest}
use Rattle.cast_run.proofs.waits.find_oldest.Given as goal

abbrev pub invariant-loop-place : goal.invariant-loop-place
invariant-loop-place l = (l.oldest < length l.fn.live) × IsOldest l.fn.live l.place l.oldest
