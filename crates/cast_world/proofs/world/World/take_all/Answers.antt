use Rattle.std.proofs.lemmas.Result.{err_from_is_err_and}
use Rattle.std.proofs.lemmas.List.{drop_all}
use Rattle.cast_model.proofs.Round.{with_all}
use Rattle.cast_world.proofs.Rounding.{taking_next, taking_more, taking_stops, taking_done}
use Rattle.cast_world.proofs.world.World.take_all.Goals as goal

pub returns-in_err-step : goal.returns-in_err-step
returns-in_err-step c config past st =
    let p = err_from_is_err_and c.from_residual.result c.from_residual.ensures.1 in
    let next = taking_next config past c.args.events.now c.loop-event.self c.loop-event.event-index c.event-item.result c.loop-event-test.true c.event-item.is (c.loop-event.invariant config past st) in
    rw (p.1, p.2) (taking_stops config past c.args.events.now _ c.event-item.result c.loop-event.self c.step.new.self next c.in_err-step.field-0.0 (c.in_err-step.ensures.stands config (with_all past next.front) next.stands))

pub loop-event-preserved : goal.loop-event-preserved
loop-event-preserved c config past st =
    let next = taking_next config past c.args.events.now c.loop-event.self c.loop-event.event-index c.event-item.result c.loop-event-test.true c.event-item.is (c.loop-event.invariant config past st) in
    taking_more config past c.args.events.now _ c.event-item.result c.loop-event.self c.step.new.self next c.in_ok-step.field-0 (c.in_ok-step.ensures.stands config (with_all past next.front) next.stands)

pub returns : goal.returns
returns c config past st =
    taking_done config past c.args.events.now _ c.loop-event.self (drop_all c.loop-event.event-index c.args.events.now c.loop-event-test.false) (c.loop-event.invariant config past st)
