use Rattle.std.proofs.Common.{◌≡◌, ◌-◌, length, None}
use Rattle.cast_engine.specs.Feeding.{IsPlaced, told_to}
use Rattle.cast_engine.proofs.feeding.next_notice.Given as goal

abbrev pub decreases-loop-place : goal.decreases-loop-place
decreases-loop-place l = length l.log.entries - l.place.entry

abbrev pub invariant-loop-place : goal.invariant-loop-place
invariant-loop-place l = IsPlaced l.client l.log.entries l.place × (told_to l.client l.log.entries l.place ≡ told_to l.client l.log.entries l.fn.place) × (l.place.waiting ≡ None)
