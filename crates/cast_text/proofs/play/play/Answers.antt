use Rattle.std.proofs.Common.{◌∙◌, sym, ap, drop}
use Rattle.std.proofs.lemmas.Result.{err_from_is_err_and}
use Rattle.std.proofs.lemmas.List.{drop_all}
use Rattle.cast_text.specs.Played.{played}
use Rattle.cast_text.proofs.Playing.{playing_none, playing_next, playing_more, playing_breaks, playing_done}
use Rattle.cast_text.proofs.play.play.Goals as goal

pub loop-index-init : goal.loop-index-init
loop-index-init g c = record {
  ready = c.requires.ready;
  playing = playing_none g.met.O.Observer.laws c.args.script.now.config c.args.script.now.events c.args.world.now c.args.observer.now c.requires.world (g.met.O.Observer.laws.none c.args.observer.now c.requires.ready);
}

pub returns-in_err-play_script_event-clause-saw : goal.returns-in_err-play_script_event-clause-saw
returns-in_err-play_script_event-clause-saw g c =
    let p = err_from_is_err_and c.from_residual.result c.from_residual.ensures.1 in
    let script = c.args.script.now in
    let next = playing_next g.met.O.Observer.laws script.config c.as_slice-event-items.result.now script.events c.loop-index.index c.event-item.result c.as_slice-event-items.ensures c.loop-index-test.true c.event-item.is c.loop-index.invariant.playing in
    rw (p.1, p.2) (playing_breaks g.met.O.Observer.laws script.config (played script) c.loop-index.index c.event-item.result _ c.loop-index.world c.play_script_event.new.world _ _ _ next _ (c.in_err-play_script_event.ensures.plays script.config next.now next.stands))

pub loop-index-preserved : goal.loop-index-preserved
loop-index-preserved g c =
    let script = c.args.script.now in
    let next = playing_next g.met.O.Observer.laws script.config c.as_slice-event-items.result.now script.events c.loop-index.index c.event-item.result c.as_slice-event-items.ensures c.loop-index-test.true c.event-item.is c.loop-index.invariant.playing in
    record {
      ready = c.in_ok-play_script_event.ensures.ready;
      playing = playing_more g.met.O.Observer.laws script.config (played script) c.loop-index.index c.event-item.result _ c.loop-index.world c.play_script_event.new.world _ _ _ next (c.in_ok-play_script_event.ensures.plays script.config next.now next.stands);
    }

pub returns-clause-saw : goal.returns-clause-saw
returns-clause-saw g c =
    let script = c.args.script.now in
    let past_all = ap (drop c.loop-index.index) (sym c.as_slice-event-items.ensures) ∙ drop_all c.loop-index.index c.as_slice-event-items.result.now c.loop-index-test.false in
    playing_done g.met.O.Observer.laws script.config (played script) c.loop-index.index _ c.loop-index.world c.args.observer.now c.loop-index.observer past_all c.loop-index.invariant.playing
