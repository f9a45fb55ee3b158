use Rattle.std.proofs.Common.{◌≡◌, ◌∙◌, List, ap, subst}
use Rattle.std.proofs.lemmas.Result.{err_from_is_err_and}
use Rattle.cast_message.specs.declared.config.Config.{Config}
use Rattle.cast_message.specs.declared.event.Event.{Event}
use Rattle.cast_record.specs.Written.{WroteAll, WrotePrefix}
use Rattle.cast_merge.specs.ByStamp.{merged_events}
use Rattle.cast_script.specs.Replay.{script_text}
use Rattle.cast_text.proofs.Recording.{prefix_breaks}
use Rattle.cast_text.specs.RecordLaws.{wants_memory}
use Rattle.cast_live.specs.Replayed.{RecordsReplay}
use Rattle.cast_live.proofs.Walking.{wants}
use Rattle.cast_live.proofs.outputs.write_replay_of.Goals as goal

pub returns-in_err-events-clause-text : goal.returns-in_err-events-clause-text
returns-in_err-events-clause-text g c = wants c.from_residual.result c.from_residual.ensures.1 (wants_memory _ c.requires)

pub returns-in_err-write_script-clause-text : goal.returns-in_err-write_script-clause-text
returns-in_err-write_script-clause-text g c =
    let p = err_from_is_err_and c.from_residual-in_err-write_script.result c.from_residual-in_err-write_script.ensures.1 in
    let old = g.W.Write.contents c.args.writer.now.inner in
    let new = g.W.Write.contents c.write_script.new.writer.inner in
    let failed = c.write_script.new.writer.failed in
    let wrote = subst (λ (config : Config). WrotePrefix old new failed (script_text config c.as_slice-2.result.now)) c.config-config.ensures c.in_err-write_script.ensures in
    let are : c.as_slice-2.result.now ≡ merged_events c.args.run.now.report.reports = c.as_slice-2.ensures ∙ c.in_ok-events.ensures ∙ ap merged_events c.reports.ensures.shown in
    rw (p.1, p.2) (prefix_breaks (subst (λ (events : List Event). WrotePrefix old new failed (script_text c.args.run.now.report.config events)) are wrote))
