-- What happened to a group that ran, and what is reported of it.
--     IsMergedRun config reports events    the events are the merge of these linked logs
--     IsRunOf script reports               these are the reports of a run of the script, with a client for each of its jobs
--     events_of run                        the merged events of a run
--     IsFinished run                       the report's logs are linked, and world and summary are those of the merged events
--     end_word ended                       the word of an end
--     node_text config past p ended        the line of node p: its end, and how many items it delivered from each node
--     summary_text config past ends said   the whole summary
--     IsOfRunning script fault             why the script's group is not run, or memory ran out
use Rattle.std.specs.Prelude.{◌≡◌, ℕ, ◌+◌, ◌++◌, ◌↔◌, [], ◌∷◌, List, Bool, true, false, IsTrue, length, map, flat_map, codes, decimal, reverse, slice_get, Some, Option}
use Rattle.std.specs.List.{range_with_len}
use Rattle.cast_message.specs.declared.config.Config.{Config}
use Rattle.cast_message.specs.declared.event.Event.{Event}
use Rattle.cast_message.specs.declared.message.Item.{Item}
use Rattle.cast_model.specs.History.{History}
use Rattle.cast_model.specs.Delivery.{delivered}
use Rattle.cast_model.specs.Replies.{history, replies}
use Rattle.cast_model.specs.Rounds.{AreAccepted, Rest}
use Rattle.cast_world.specs.Group.{Stands}
use Rattle.cast_node.specs.declared.report.EngineEnd.{EngineEnd}
use Rattle.cast_node.specs.declared.report.EngineEnd.TheVariants.{Stopped, Crashed, TurnLimit, LogFull, ClockFull}
use Rattle.cast_node.specs.declared.report.NodeReport.{NodeReport}
use Rattle.cast_node.specs.Linked.{Linked}
use Rattle.cast_merge.specs.Merge.{TellsMerge}
use Rattle.cast_merge.specs.ByStamp.{merged_events}
use Rattle.cast_record.specs.declared.verdict.Verdict.TheVariants.{Good}
use Rattle.cast_record.specs.VerdictText.{verdict_text}
use Rattle.cast_run.specs.Ran.{IsRun}
use Rattle.cast_run.specs.declared.run.LiveRun.{LiveRun}
use Rattle.cast_run.specs.declared.reports.ClientReport.{ClientReport}
use Rattle.cast_run.specs.Faults.{JobsFit}
use Rattle.cast_carrier.specs.Plans.{ArePlanned}
use Rattle.cast_run.specs.SubmitAll.{SubmitsGiven}
use Rattle.cast_message.specs.declared.live_fault.LiveFault.{LiveFault}
use Rattle.cast_message.specs.declared.live_fault.LiveFault.TheVariants as lives
use Rattle.cast_run.specs.declared.submit_all.SubmitAll.{SubmitAll}
use Rattle.cast_script.specs.declared.script.Script.{Script}
use Rattle.cast_live.specs.declared.live.FinishedRun.{FinishedRun}
use Rattle.cast_live.specs.declared.summary.Summary.{Summary}
use Rattle.cast_text.specs.declared.fault.TextFault.{TextFault}
use Rattle.cast_text.specs.declared.fault.TextFault.TheVariants as faults
use Rattle.cast_text.specs.Text.{IsScriptIn}

-- ---- the run

abbrev pub ends_of : List NodeReport → List EngineEnd
ends_of reports = map (λ report. report.ended) reports

-- the events are the merge of the linked logs of a group with this configuration, and the group accepts each of them
pub record IsMergedRun (config : Config) (reports : List NodeReport) (events : List Event) : Type 0 where
  pub linked : Linked config reports
  pub merge : TellsMerge (map (λ report. report.log) reports) events (replies config events)
  pub accepted : AreAccepted config [] events
  pub whole : history config events ≡ reverse events

-- what happened in the run: the events of its logs, merged
abbrev pub events_of : FinishedRun → List Event
events_of run = merged_events run.report.reports

-- the summary says whether the group is at rest after these events, and that their record is good
pub record IsSummaryOf (config : Config) (events : List Event) (said : Summary) : Type 0 where
  pub rest : IsTrue said.rest ↔ Rest config (history config events)
  pub good : said.verdict ≡ Good

-- the run's logs are linked; its world and summary are those of the merged events
pub record IsFinished (run : FinishedRun) : Type 0 where
  pub merged : IsMergedRun run.report.config run.report.reports (events_of run)
  pub stands : Stands run.report.config (history run.report.config (events_of run)) run.world
  pub said : IsSummaryOf run.report.config (events_of run) run.summary

-- a job that has submitted nothing
abbrev pub IsNewJob : SubmitAll → Type 0
IsNewJob job = (job.count ≡ length job.left) × (job.replies ≡ 0)

abbrev pub AreNewJobs : List (ℕ × SubmitAll) → Type 0
AreNewJobs jobs = (i : ℕ) (job : ℕ × SubmitAll) → slice_get jobs i ≡ Some job → IsNewJob job.1

-- the node of a job, and the items that it submits
abbrev pub items_of : ℕ × SubmitAll → ℕ × List Item
items_of job = (job.0, job.1.left)

-- the plan and the jobs fit the script's group
pub record FitsGroup (script : Script) : Type 0 where
  pub jobs : JobsFit script.config.nodes script.jobs
  pub plan : ArePlanned script.config.nodes script.plan.faults

-- These are the reports of a run of the script, which fits its group. Each of its jobs had a client that submits its
-- items, with none left at a node that stopped.
pub record IsRunOf (script : Script) (reports : List NodeReport) : Type 0 where
  pub fits : FitsGroup script
  -- the jobs that were handed in
  pub handed : List (ℕ × SubmitAll)
  pub items : map items_of handed ≡ script.jobs
  pub new : AreNewJobs handed
  -- what was returned for them
  pub back : LiveRun SubmitAll
  pub ran : IsRun script.config script.plan.faults SubmitsGiven handed back
  pub reported : back.report.reports ≡ reports
  pub none_left : (i : ℕ) (client : ClientReport) (report : NodeReport)
      → slice_get back.clients.items i ≡ Some client → slice_get reports client.node ≡ Some report
      → report.ended ≡ Stopped → client.left ≡ 0

-- ---- its summary

abbrev pub end_word : EngineEnd → List ℕ
end_word Stopped = codes "stopped"
end_word Crashed = codes "crashed"
end_word TurnLimit = codes "turnlimit"
end_word LogFull = codes "logfull"
end_word ClockFull = codes "clockfull"

-- how many items node p delivered from each of these nodes, each number after a blank
abbrev pub counts_text : Config → History → ℕ → List ℕ → List ℕ
counts_text config past p senders =
    flat_map (λ sender. codes " " ++ decimal (length (delivered config past p sender))) senders

abbrev pub end_text : ℕ → EngineEnd → List ℕ
end_text p ended = codes "node " ++ (decimal p ++ (codes " " ++ end_word ended))

abbrev pub node_text : Config → History → ℕ → EngineEnd → List ℕ
node_text config past p ended =
    end_text p ended ++ (counts_text config past p (range_with_len 0 config.nodes) ++ codes "\n")

-- the lines of the nodes from p on, with these ends
unfoldable pub nodes_text : Config → History → ℕ → List EngineEnd → List ℕ
nodes_text config past p [] = []
nodes_text config past p (ended ∷ ends) = node_text config past p ended ++ nodes_text config past (p + 1) ends

abbrev pub rest_text : Bool → List ℕ
rest_text true = codes "rest yes\n"
rest_text false = codes "rest no\n"

abbrev pub summary_text : Config → History → List EngineEnd → Summary → List ℕ
summary_text config past ends said =
    nodes_text config past 0 ends
    ++ (rest_text said.rest ++ (codes "verdict " ++ (verdict_text said.verdict ++ 10 ∷ [])))

abbrev pub summary_of : FinishedRun → List ℕ
summary_of run =
    summary_text run.report.config (history run.report.config (events_of run)) (ends_of run.report.reports) run.summary

-- ---- faults

-- why the group of a script is not run: the first cause that holds, or, if there is none, a thread that did not start
abbrev pub IsRefusedFor : Script → LiveFault → Type 0
IsRefusedFor script lives.Jobs = ¬ JobsFit script.config.nodes script.jobs
IsRefusedFor script lives.Plan =
    JobsFit script.config.nodes script.jobs × ¬ ArePlanned script.config.nodes script.plan.faults
IsRefusedFor script lives.Threads = FitsGroup script
IsRefusedFor script _ = ⊥

abbrev pub IsOfRunning : Script → TextFault → Type 0
IsOfRunning script (faults.Live why) = IsRefusedFor script why
IsOfRunning script faults.Memory = FitsGroup script
IsOfRunning script fault = ⊥

-- the script that was read is not run for this cause
pub record DoesNotRun (input : Option (List ℕ)) (why : LiveFault) : Type 0 where
  pub script : Script
  pub read : IsScriptIn input script
  pub cause : IsRefusedFor script why
