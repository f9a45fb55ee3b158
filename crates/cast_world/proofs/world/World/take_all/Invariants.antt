-- The events so far were taken.
use Rattle.std.proofs.Common.{drop}
use Rattle.cast_message.specs.declared.config.Config.{Config}
use Rattle.cast_model.specs.History.{History}
use Rattle.cast_world.specs.Group.{Stands}
use Rattle.cast_world.proofs.Rounding.{IsTaking}
use Rattle.cast_world.proofs.world.World.take_all.Given as goal

abbrev pub invariant-loop-event : goal.invariant-loop-event
invariant-loop-event l = (config : Config) (past : History) → Stands config past l.fn.self → IsTaking config past l.events (drop l.event-index l.events) l.self
