use Rattle.std.proofs.Common.{◌≡◌, map, take}
use Rattle.cast_c.specs.Exploring.{numbers_of_event}
use Rattle.cast_c.proofs.exploring.numbers_of_events.Given as goal

abbrev pub invariant-loop-event : goal.invariant-loop-event
invariant-loop-event l = l.all.items ≡ map numbers_of_event (take l.event-index l.from)
