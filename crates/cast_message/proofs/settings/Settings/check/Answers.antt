use Rattle.std.proofs.Common.{◌∙◌}
use Rattle.std.proofs.lemmas.Result.{err_from_is_err_and}
use Rattle.cast_message.specs.Limits.{config_causes}
use Rattle.cast_message.proofs.settings.Settings.check.Goals as goal

pub returns-in_err-check_counts-clause-fault : goal.returns-in_err-check_counts-clause-fault
unfolding config_causes
returns-in_err-check_counts-clause-fault c =
    let p = err_from_is_err_and c.from_residual.result c.from_residual.ensures.1 in
    rw (p.1, p.2) (c.in_err-check_counts.ensures.fault _)

pub returns-in_err-check_sizes-clause-fault : goal.returns-in_err-check_sizes-clause-fault
unfolding config_causes
returns-in_err-check_sizes-clause-fault c =
    let p = err_from_is_err_and c.from_residual-in_err-check_sizes.result c.from_residual-in_err-check_sizes.ensures.1 in
    rw (p.1, p.2) (c.in_ok-check_counts.ensures.none _ ∙ c.in_err-check_sizes.ensures.fault _)
