-- The events so far were taken, and the judge was fed their lines.
use Rattle.std.proofs.Common.{length}
use Rattle.cast_merge.specs.ByStamp.{merged_events}
use Rattle.cast_record.specs.Text.{record_text}
use Rattle.cast_live.specs.Replayed.{record_of_accepted}
use Rattle.cast_live.specs.Walk.{IsWalk}
use Rattle.cast_live.proofs.VerdictLemmas.{IsFed}
use Rattle.cast_live.proofs.Walking.{rest_text}
use Rattle.cast_live.proofs.verdict.judge_run.Given as goal

abbrev pub invariant-events : goal.invariant-events
invariant-events l =
    (w : IsWalk l.report.config (merged_events l.report.reports) l.index l.merged l.world)
    × IsFed (record_text (record_of_accepted l.report.config (merged_events l.report.reports))) (rest_text l.report.config l.index w.past l.merged) l.judging

abbrev pub decreases-events : goal.decreases-events
decreases-events l = length l.merged
