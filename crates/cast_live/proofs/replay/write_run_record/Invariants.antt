-- The events so far were taken, and their lines written.
use Rattle.std.proofs.Common.{length}
use Rattle.cast_merge.specs.ByStamp.{merged_events}
use Rattle.cast_record.specs.Text.{record_text}
use Rattle.cast_record.proofs.WrittenLemmas.{IsGoing}
use Rattle.cast_live.specs.Replayed.{record_of_accepted}
use Rattle.cast_live.specs.Walk.{IsWalk}
use Rattle.cast_live.proofs.Walking.{rest_text}
use Rattle.cast_live.proofs.replay.write_run_record.Given as goal

abbrev pub invariant-events : goal.invariant-events
invariant-events g l =
    (w : IsWalk l.report.config (merged_events l.report.reports) l.index l.merged l.world)
    × IsGoing (g.W.Write.contents l.fn.writer.inner) (g.W.Write.contents l.writer.inner) l.writer.failed
    (record_text (record_of_accepted l.report.config (merged_events l.report.reports))) (rest_text l.report.config l.index w.past l.merged)

abbrev pub decreases-events : goal.decreases-events
decreases-events g l = length l.merged
