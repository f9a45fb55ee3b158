use Rattle.std.proofs.Common.{Ok, Err}
use Rattle.std.proofs.lemmas.Result.{err_from_is_err_and}
use Rattle.cast_text.specs.declared.fault.TextFault.TheVariants.{Write}
use Rattle.cast_text.specs.Played.{Taken}
use Rattle.cast_text.proofs.Recording.{prefix_breaks, writes_one}
use Rattle.cast_text.proofs.record.MeterObserver.see_event.Goals as goal

pub returns-in_err-write_lines_of-clause-saw : goal.returns-in_err-write_lines_of-clause-saw
returns-in_err-write_lines_of-clause-saw g c =
    let p = err_from_is_err_and c.from_residual.result c.from_residual.ensures.1 in
    rw (p.1, p.2) (writes_one _ _ _ (Err Write) (Taken c.args.index c.args.event.now c.args.reply.now) (prefix_breaks c.in_err-write_lines_of.ensures))

pub returns-clause-saw : goal.returns-clause-saw
returns-clause-saw g c = writes_one _ _ _ (Ok tt) (Taken c.args.index c.args.event.now c.args.reply.now) c.in_ok-write_lines_of.ensures
