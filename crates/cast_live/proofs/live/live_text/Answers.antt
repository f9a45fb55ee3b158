use Rattle.std.proofs.Common.{refl, inl, inr}
use Rattle.std.proofs.lemmas.Result.{err_from_is_err_and}
use Rattle.cast_live.proofs.OutputLemmas.{unrun, is_run}
use Rattle.cast_live.proofs.live.live_text.Goals as goal

pub returns-in_err-run-clause-exact : goal.returns-in_err-run-clause-exact
returns-in_err-run-clause-exact g c =
    let p = err_from_is_err_and c.from_residual-in_err-run.result c.from_residual-in_err-run.ensures.1 in
    rw (p.1, p.2) (inl (unrun _ c.read_script_text.new.reader.failed c.in_ok-script.script c.in_err-run.field-0.0 c.in_ok-script.ensures.ok c.in_err-run.ensures.err, refl))

pub returns-in_err-write-clause-exact : goal.returns-in_err-write-clause-exact
returns-in_err-write-clause-exact g c =
    let p = err_from_is_err_and c.from_residual-in_err-write.result c.from_residual-in_err-write.ensures.1 in
    rw (p.1, p.2) (inr (record {
      run = c.in_ok-run.run';
      of = is_run _ c.in_ok-script.script c.in_ok-run.run' c.in_ok-script.ensures.ok c.in_ok-run.ensures.config c.in_ok-run.ensures.ran c.in_ok-run.ensures.ok;
      texts = c.in_err-write.ensures.front;
      cause = c.in_err-write.ensures.fault;
    }))

pub returns-clause-exact : goal.returns-clause-exact
returns-clause-exact g c =
    (is_run _ c.in_ok-script.script c.in_ok-run.run' c.in_ok-script.ensures.ok c.in_ok-run.ensures.config c.in_ok-run.ensures.ran c.in_ok-run.ensures.ok, c.in_ok-write.ensures.whole)
