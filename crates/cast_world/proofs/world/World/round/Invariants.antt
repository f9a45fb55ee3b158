-- The slots so far were settled.
use Rattle.std.proofs.Common.{length}
use Rattle.cast_message.specs.declared.config.Config.{Config}
use Rattle.cast_model.specs.History.{History}
use Rattle.cast_world.specs.Group.{Stands}
use Rattle.cast_world.proofs.Rounding.{IsLeft}
use Rattle.cast_world.proofs.world.World.round.Given as goal

abbrev pub invariant-slots : goal.invariant-slots
invariant-slots l = (config : Config) (past : History) → Stands config past l.fn.self → IsLeft config past l.due l.self

abbrev pub decreases-slots : goal.decreases-slots
decreases-slots l = length l.due
