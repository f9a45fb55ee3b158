use Rattle.std.proofs.lemmas.Result.{err_from_is_err_and}
use Rattle.cast_text.proofs.Playing.{settle_breaks, settle_done}
use Rattle.cast_text.proofs.play.play_script_event.Goals as goal

pub returns-in_err-play_rounds-in-Settle-clause-plays : goal.returns-in_err-play_rounds-in-Settle-clause-plays
returns-in_err-play_rounds-in-Settle-clause-plays g c config past st =
    let p = err_from_is_err_and c.from_residual-in_err-play_rounds-in-Settle.result c.from_residual-in_err-play_rounds-in-Settle.ensures.1 in
    rw (p.1, p.2, c.in-Settle.is)
    (settle_breaks g.met.O.Observer.laws config c.args.index past c.args.observer.now c.see_settle_begin.new.self c.see_settle_begin.ensures.saw c.play_rounds.new.observer _ (c.in_err-play_rounds-in-Settle.ensures.plays config past st))

pub returns-in_ok-play_rounds-in-Settle-clause-plays : goal.returns-in_ok-play_rounds-in-Settle-clause-plays
returns-in_ok-play_rounds-in-Settle-clause-plays g c config past st =
    rw c.in-Settle.is
    (settle_done g.met.O.Observer.laws config c.args.index past c.args.observer.now c.see_settle_begin.new.self c.see_settle_begin.ensures.saw c.play_rounds.new.world c.play_rounds.new.observer c.see_settle_end.new.self c.see_settle_end.result
    (c.in_ok-play_rounds-in-Settle.ensures.plays config past st) c.see_settle_end.ensures.saw)
