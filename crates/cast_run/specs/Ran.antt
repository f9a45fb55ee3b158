-- All that is known about a group that has run.
--     LogsEnd config faults reports        each log ends as the plan and the limit say
--     IsRun config faults fact jobs run    what a group with these jobs returns, run in threads or by a schedule
use Rattle.std.specs.Prelude.{◌≡◌, ◌≤◌, ℕ, Bool, List, None, Some, slice_get}
use Rattle.cast_message.specs.declared.config.Config.{Config}
use Rattle.cast_message.specs.declared.plan.Fault.{Fault}
use Rattle.cast_carrier.specs.Plans.{crash_from}
use Rattle.cast_journal.specs.declared.order.OrderIn.{OrderIn}
use Rattle.cast_desk.specs.declared.notice.Notice.{Notice}
use Rattle.cast_journal.specs.Journals.{EndsAs}
use Rattle.cast_node.specs.Linked.{Linked}
use Rattle.cast_node.specs.declared.report.NodeReport.{NodeReport}
use Rattle.cast_run.specs.Planned.{faults_of, KeepsTo}
use Rattle.cast_run.specs.Serves.{AreStamped, AreServed, HaveOrigins}
use Rattle.cast_run.specs.declared.reports.ClientReport.{ClientReport}
use Rattle.cast_run.specs.declared.run.LiveRun.{LiveRun}

-- a node that stopped has no crash due, and its log is not full
abbrev pub LogsEnd : Config → List Fault → List NodeReport → Type 0
LogsEnd config faults reports =
    (p : ℕ) (report : NodeReport) → slice_get reports p ≡ Some report
    → EndsAs config.log_limit (crash_from p None faults) (Some report.ended) report.log

pub record IsRun {J : Type 0} (config : Config) (faults : List Fault)
    (fact : J → J → List OrderIn → List Notice → Bool → Type 0) (jobs : List (ℕ × J))
    (run : LiveRun J) : Type 0 where
  pub config_is : run.report.config ≡ config
  -- the logs are one history of the group
  pub linked : Linked config run.report.reports
  -- no frame arrives that the plan loses, or delays by more frames than its maker made for the target after it; none
  -- arrives twice unless the plan repeats it
  pub planned : KeepsTo config (faults_of faults) run.report.reports
  pub logs : LogsEnd config faults run.report.reports
  -- the clocks are Lamport's
  pub stamps : AreStamped config run.report.reports
  -- for each job and the one that came back in its place, its fact holds; the logs have what it submitted and got
  pub served : AreServed config fact jobs run.report.reports run.jobs.items run.clients.items
  -- each order in a log comes from a client of its node
  pub origins : HaveOrigins jobs run.report.reports
  -- no more orders of a client are left than a box has places
  pub room : (i : ℕ) (r : ClientReport) → slice_get run.clients.items i ≡ Some r
      → r.left ≤ config.box_size
