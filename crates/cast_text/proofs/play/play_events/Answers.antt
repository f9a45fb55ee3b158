use Rattle.std.proofs.lemmas.Result.{err_from_is_err_and}
use Rattle.std.proofs.lemmas.List.{drop_all}
use Rattle.cast_text.proofs.Playing.{trying_none, trying_next, trying_more, trying_refused, trying_breaks, trying_done}
use Rattle.cast_text.proofs.play.play_events.Goals as goal

pub loop-event-init : goal.loop-event-init
loop-event-init g c = record {
  ready = c.requires;
  trying = λ config past st. trying_none g.met.O.Observer.laws config c.args.index past c.args.events.now c.args.world.now c.args.observer.now st (g.met.O.Observer.laws.none c.args.observer.now c.requires);
}

pub returns-in_err-play_event-clause-plays : goal.returns-in_err-play_event-clause-plays
returns-in_err-play_event-clause-plays g c config past st =
    let p = err_from_is_err_and c.from_residual.result c.from_residual.ensures.1 in
    let next = trying_next g.met.O.Observer.laws config c.args.index c.loop-event.event-index c.event-item.result c.loop-event-test.true c.event-item.is (c.loop-event.invariant.trying config past st) in
    rw (p.1, p.2) (trying_breaks g.met.O.Observer.laws config c.args.index past c.args.events.now _ c.event-item.result c.loop-event.world c.play_event.new.world _ _ _ next _ (c.in_err-play_event.ensures.plays config next.now next.stands))

pub returns-then-not-branch-clause-plays : goal.returns-then-not-branch-clause-plays
returns-then-not-branch-clause-plays g c config past st =
    let next = trying_next g.met.O.Observer.laws config c.args.index c.loop-event.event-index c.event-item.result c.loop-event-test.true c.event-item.is (c.loop-event.invariant.trying config past st) in
    trying_refused g.met.O.Observer.laws config c.args.index past c.args.events.now _ c.event-item.result c.loop-event.world c.play_event.new.world _ _ _ next c.in_ok-play_event.field-0 c.if-not-branch.true (c.in_ok-play_event.ensures.plays config next.now next.stands)

pub loop-event-preserved : goal.loop-event-preserved
loop-event-preserved g c = record {
  ready = c.in_ok-play_event.ensures.ready;
  trying = λ config past st.
      let next = trying_next g.met.O.Observer.laws config c.args.index c.loop-event.event-index c.event-item.result c.loop-event-test.true c.event-item.is (c.loop-event.invariant.trying config past st) in
      trying_more g.met.O.Observer.laws config c.args.index past c.args.events.now _ c.event-item.result c.loop-event.world c.play_event.new.world _ _ _ next c.in_ok-play_event.field-0 c.if-not-branch.false (c.in_ok-play_event.ensures.plays config next.now next.stands);
}

pub returns-clause-plays : goal.returns-clause-plays
returns-clause-plays g c config past st =
    trying_done g.met.O.Observer.laws config c.args.index past c.args.events.now _ c.loop-event.world c.args.observer.now c.loop-event.observer (drop_all c.loop-event.event-index c.args.events.now c.loop-event-test.false) (c.loop-event.invariant.trying config past st)
