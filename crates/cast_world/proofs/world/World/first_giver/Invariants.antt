-- The nodes so far owe nothing.
use Rattle.std.proofs.Common.{ℕ, ◌<◌}
use Rattle.cast_message.specs.declared.config.Config.{Config}
use Rattle.cast_model.specs.History.{History}
use Rattle.cast_world.specs.Group.{Stands}
use Rattle.cast_world.specs.Rounds.{IsSettledWithAll}
use Rattle.cast_world.proofs.world.World.first_giver.Given as goal

abbrev pub invariant-loop-giver : goal.invariant-loop-giver
invariant-loop-giver l = (config : Config) (past : History) → Stands config past l.self → (p : ℕ) → p < l.giver → IsSettledWithAll config past p
