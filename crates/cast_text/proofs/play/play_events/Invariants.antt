-- The events so far were taken, none was refused, and the observer saw them.
use Rattle.std.proofs.Common.{drop}
use Rattle.cast_message.specs.declared.config.Config.{Config}
use Rattle.cast_model.specs.History.{History}
use Rattle.cast_world.specs.Group.{Stands}
use Rattle.cast_text.proofs.Playing.{IsTrying}
use Rattle.cast_text.proofs.play.play_events.Given as goal

abbrev pub invariant-loop-event : goal.invariant-loop-event
invariant-loop-event g l = record {
  ready : g.O.Observer.ready l.observer;
  trying : (config : Config) (past : History) → Stands config past l.fn.world → IsTrying g.met.O.Observer.laws config l.index past l.events (drop l.event-index l.events) l.world l.fn.observer l.observer;
}
