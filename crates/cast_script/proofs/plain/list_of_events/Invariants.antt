use Rattle.std.proofs.Common.{length}
use Rattle.cast_script.proofs.PlainLemmas.{IsReading}
use Rattle.cast_script.proofs.plain.list_of_events.Given as goal

abbrev pub invariant-events : goal.invariant-events
invariant-events l = IsReading l.initial.reader l.reader l.events

abbrev pub decreases-events : goal.decreases-events
decreases-events l = length l.reader
