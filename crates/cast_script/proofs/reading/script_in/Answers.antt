use Rattle.std.proofs.Common.{arith, map}
use Rattle.std.proofs.lemmas.Result.{err_from_is_err_and}
use Rattle.std.proofs.lemmas.Grind.{common_steps}
use Rattle.serde_json.specs.View.{view}
use Rattle.cast_script.proofs.ScriptLemmas.{jobs_refused, config_refused, checked_refused}
use Rattle.cast_script.proofs.reading.script_in.Goals as goal

pub returns-in_err-jobs-clause-script : goal.returns-in_err-jobs-clause-script
returns-in_err-jobs-clause-script c =
    let p = err_from_is_err_and c.from_residual-in_err-jobs.result c.from_residual-in_err-jobs.ensures.1 in
    rw (p.1, p.2) (jobs_refused c.args.settings.now (map view c.args.event_values.now) (map view c.args.fault_values.now) (map view c.args.job_values.now) c.in_ok-events.events c.in_ok-faults.faults _ _ c.in_err-jobs.field-0.0 (grind (arith, common_steps)) (grind (arith, common_steps)) c.in_ok-events.ensures.elements c.in_ok-faults.ensures.elements c.in_err-jobs.ensures.elements)

pub returns-in_err-config-clause-script : goal.returns-in_err-config-clause-script
returns-in_err-config-clause-script c =
    let p = err_from_is_err_and c.from_residual-in_err-config.result c.from_residual-in_err-config.ensures.1 in
    rw (p.1, p.2) (config_refused c.args.settings.now (map view c.args.event_values.now) (map view c.args.fault_values.now) (map view c.args.job_values.now) c.in_ok-events.events c.in_ok-faults.faults c.in_ok-jobs.jobs _ _ c.in_err-config.field-0.0 (grind (arith, common_steps)) (grind (arith, common_steps)) c.in_ok-events.ensures.elements c.in_ok-faults.ensures.elements c.in_ok-jobs.ensures.elements (checked_refused c.args.settings.now c.in_err-config.field-0.0 c.in_err-config.ensures))
