-- The entries so far told no step.
use Rattle.std.proofs.Common.{◌≡◌, drop}
use Rattle.cast_merge.specs.ByStamp.{logged_steps}
use Rattle.cast_merge.proofs.merge.front_of.Given as goal

abbrev pub invariant-loop-place : goal.invariant-loop-place
invariant-loop-place l = logged_steps (drop l.place l.log) ≡ logged_steps (drop l.from l.log)
