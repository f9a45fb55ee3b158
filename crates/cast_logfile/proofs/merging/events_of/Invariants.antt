use Rattle.std.proofs.Common.{◌≡◌, map, take}
use Rattle.cast_logfile.specs.Merging.{event_at}
use Rattle.cast_logfile.proofs.merging.events_of.Given as goal

abbrev pub invariant-loop-place : goal.invariant-loop-place
invariant-loop-place l = l.events ≡ map (event_at l.logs) (take l.place-index l.order)
