use Rattle.std.proofs.Common.{ℕ, ◌<◌, get_or}
use Rattle.cast_message.specs.declared.event.Event.{Event}
use Rattle.cast_script.specs.ReplayRanges.{IsEventWithin}
use Rattle.cast_script.proofs.law.tell_events.Given as goal

abbrev pub invariant-loop-event : goal.invariant-loop-event
invariant-loop-event l = (k : ℕ) (d : Event) → k < l.event-index → IsEventWithin (get_or l.events k d)
