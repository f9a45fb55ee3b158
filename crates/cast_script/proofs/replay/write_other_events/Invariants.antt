use Rattle.std.proofs.Common.{drop}
use Rattle.cast_record.proofs.WrittenLemmas.{IsGoing}
use Rattle.cast_script.specs.Replay.{others_text}
use Rattle.cast_script.proofs.replay.write_other_events.Given as goal

abbrev pub invariant-loop-event : goal.invariant-loop-event
invariant-loop-event g l = IsGoing (g.W.Write.contents l.initial.writer.inner) (g.W.Write.contents l.writer.inner) l.writer.failed (others_text l.events) (others_text (drop l.event-index l.events))
