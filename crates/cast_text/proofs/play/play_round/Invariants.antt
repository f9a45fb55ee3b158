-- The slots before were settled, none of their events was refused, and the observer saw them.
use Rattle.std.proofs.Common.{length}
use Rattle.cast_message.specs.declared.config.Config.{Config}
use Rattle.cast_model.specs.History.{History}
use Rattle.cast_world.specs.Group.{Stands}
use Rattle.cast_text.proofs.Playing.{IsRoundLeft}
use Rattle.cast_text.proofs.play.play_round.Given as goal

abbrev pub invariant-slots : goal.invariant-slots
invariant-slots g l = record {
  ready : g.O.Observer.ready l.observer;
  round : (config : Config) (past : History) → Stands config past l.fn.world → IsRoundLeft g.met.O.Observer.laws config l.index past l.due l.world l.fn.observer l.observer;
}

abbrev pub decreases-slots : goal.decreases-slots
decreases-slots g l = length l.due
