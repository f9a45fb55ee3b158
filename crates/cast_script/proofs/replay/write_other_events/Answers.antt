use Rattle.cast_record.proofs.WrittenLemmas.{going_again, going_more, going_breaks}
use Rattle.cast_script.proofs.ReplayWriting.{others-next}
use Rattle.cast_script.proofs.replay.write_other_events.Goals as goal

pub returns-in_err-write_bytes : goal.returns-in_err-write_bytes
returns-in_err-write_bytes g c =
    let next = others-next c.args.events.now c.loop-event.event-index c.event-item.result c.loop-event-test.true c.event-item.is in
    going_breaks _ _ c.from_residual.result c.from_residual.ensures.1 (going_again c.loop-event.invariant next) c.in_err-write_bytes.ensures

pub returns-in_err-write_event : goal.returns-in_err-write_event
returns-in_err-write_event g c =
    let next = others-next c.args.events.now c.loop-event.event-index c.event-item.result c.loop-event-test.true c.event-item.is in
    going_breaks _ _ c.from_residual-in_err-write_event.result c.from_residual-in_err-write_event.ensures.1 (going_more (going_again c.loop-event.invariant next) c.in_ok-write_bytes.ensures) c.in_err-write_event.ensures

pub loop-event-preserved : goal.loop-event-preserved
loop-event-preserved g c =
    let next = others-next c.args.events.now c.loop-event.event-index c.event-item.result c.loop-event-test.true c.event-item.is in
    going_more (going_more (going_again c.loop-event.invariant next) c.in_ok-write_bytes.ensures) c.in_ok-write_event.ensures
