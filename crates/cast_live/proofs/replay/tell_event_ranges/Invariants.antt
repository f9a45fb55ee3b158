use Rattle.std.proofs.Common.{ℕ, ◌<◌, get_or}
use Rattle.cast_message.specs.declared.event.Event.{Event}
use Rattle.cast_text.specs.Ranges.{HasEventRange}
use Rattle.cast_live.proofs.replay.tell_event_ranges.Given as goal

abbrev pub invariant-loop-event : goal.invariant-loop-event
invariant-loop-event l = (k : ℕ) (d : Event) → k < l.event-index → HasEventRange (get_or l.events k d)
