-- The events so far were taken, and the observer saw them.
use Rattle.std.proofs.Common.{drop}
use Rattle.cast_text.specs.Played.{played}
use Rattle.cast_text.proofs.Playing.{IsPlaying}
use Rattle.cast_text.proofs.play.play.Given as goal

abbrev pub invariant-loop-index : goal.invariant-loop-index
invariant-loop-index g l = record {
  ready : g.O.Observer.ready l.observer;
  playing : IsPlaying g.met.O.Observer.laws l.script.config (played l.script) l.index (drop l.index l.script.events) l.world l.fn.observer l.observer;
}
