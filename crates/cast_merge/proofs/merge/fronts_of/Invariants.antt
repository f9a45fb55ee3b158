-- What is left of the logs so far.
use Rattle.std.proofs.Common.{◌≡◌, take}
use Rattle.cast_merge.specs.ByStamp.{merged_logs, logs_of}
use Rattle.cast_merge.specs.Fronts.{merged_left}
use Rattle.cast_merge.proofs.merge.fronts_of.Given as goal

abbrev pub invariant-loop-report : goal.invariant-loop-report
invariant-loop-report l = merged_left l.fronts.items ≡ merged_logs (logs_of (take l.report-index l.reports))
