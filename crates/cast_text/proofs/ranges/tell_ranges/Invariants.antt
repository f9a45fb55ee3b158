use Rattle.std.proofs.Common.{ℕ, ◌<◌, get_or}
use Rattle.cast_script.specs.declared.script.ScriptEvent.{ScriptEvent}
use Rattle.cast_text.specs.Ranges.{HasScriptRange}
use Rattle.cast_text.proofs.ranges.tell_ranges.Given as goal

abbrev pub invariant-loop-event : goal.invariant-loop-event
invariant-loop-event l = (k : ℕ) (d : ScriptEvent) → k < l.event-index → HasScriptRange (get_or l.events k d)
