-- The frames for the slots before.
use Rattle.std.proofs.Common.{◌≡◌, ◌++◌, List, length}
use Rattle.std.specs.List.{filter, flat_map}
use Rattle.cast_message.specs.declared.config.Config.{Config}
use Rattle.cast_model.specs.History.{History}
use Rattle.cast_model.specs.Rounds.{Due, due}
use Rattle.cast_world.specs.Group.{Stands}
use Rattle.cast_world.specs.Offers.{is_possible, makings}
use Rattle.cast_world.proofs.world.World.offer_frames.Given as goal

abbrev pub invariant-slots : goal.invariant-slots
invariant-slots l = record {
  before : List Due;
  so_far : (config : Config) (past : History) → Stands config past l.self → (before ++ l.due ≡ due config past) × (l.events.items ≡ l.fn.events.items ++ filter (is_possible config past) (flat_map makings before));
}

abbrev pub decreases-slots : goal.decreases-slots
decreases-slots l = length l.due
