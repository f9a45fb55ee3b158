-- What may happen next, but for the arrivals of the nodes that follow.
use Rattle.std.proofs.Common.{◌≡◌, ◌++◌}
use Rattle.std.specs.List.{filter, flat_map, range_with_len}
use Rattle.cast_message.specs.declared.config.Config.{Config}
use Rattle.cast_model.specs.History.{History}
use Rattle.cast_model.specs.Rounds.{due}
use Rattle.cast_world.specs.Group.{Stands}
use Rattle.cast_world.specs.Offers.{is_possible, makings, arrivals_new}
use Rattle.cast_world.proofs.world.World.events_enabled.Given as goal

abbrev pub invariant-loop-from : goal.invariant-loop-from
invariant-loop-from l = (config : Config) (past : History) → Stands config past l.self →
    l.events.items ≡ filter (is_possible config past) (flat_map makings (due config past)) ++ filter (is_possible config past) (flat_map (arrivals_new past) (range_with_len 0 l.from))
