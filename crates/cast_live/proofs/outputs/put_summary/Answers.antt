use Rattle.std.proofs.lemmas.Result.{err_from_is_err_and}
use Rattle.cast_text.proofs.Recording.{prefix_breaks}
use Rattle.cast_live.proofs.outputs.put_summary.Goals as goal

pub returns-in_err-write_summary : goal.returns-in_err-write_summary
returns-in_err-write_summary g c =
    let p = err_from_is_err_and c.from_residual.result c.from_residual.ensures.1 in
    rw (p.1, p.2) (prefix_breaks c.in_err-write_summary.ensures)
