use Rattle.std.proofs.Common.{◌∙◌, ap, refl, sym, subst}
use Rattle.std.proofs.lemmas.Result.{err_from_is_err_and}
use Rattle.cast_run.proofs.Replied.{none_left}
use Rattle.cast_live.specs.Live.{IsRunOf}
use Rattle.cast_live.proofs.LiveLemmas.{fits, refused_for}
use Rattle.cast_live.proofs.live.run_script.Goals as goal

pub returns-in_err-run-clause-err : goal.returns-in_err-run-clause-err
returns-in_err-run-clause-err g c =
    let p = err_from_is_err_and c.from_residual-in_err-run.result c.from_residual-in_err-run.ensures.1 in
    rw (p.1, p.2) (refused_for c.args.script c.in_ok-jobs.jobs.items c.in_ok-jobs.ensures.items _ (c.in_ok-gates.ensures ∙ c.nodes-2.ensures) c.in_err-run.field-0.0 c.in_err-run.ensures.fault)

pub returns-clause-ran : goal.returns-clause-ran
returns-clause-ran g c =
    let run = c.in_ok-run.run' in
    let handed = c.in_ok-jobs.jobs.items in
    subst (IsRunOf c.args.script) (ap (λ report. report.reports) (sym c.in_ok-merge_logs.ensures.report)) (record {
      fits = record {
        jobs = fits c.args.script handed c.in_ok-jobs.ensures.items _ (c.in_ok-gates.ensures ∙ c.nodes-2.ensures) c.in_ok-run.ensures.fits.jobs_fit;
        plan = c.in_ok-run.ensures.fits.plan_fits;
      };
      handed = handed;
      items = c.in_ok-jobs.ensures.items;
      new = c.in_ok-jobs.ensures.new;
      back = run;
      ran = c.in_ok-run.ensures.ran;
      reported = refl;
      none_left = none_left c.args.script.config handed _ run.jobs.items run.clients.items c.in_ok-run.ensures.ran.served;
    })
