-- The arrivals of the frames before.
use Rattle.std.proofs.Common.{◌≡◌, ◌++◌}
use Rattle.std.specs.List.{filter, flat_map, range_with_len}
use Rattle.cast_message.specs.declared.config.Config.{Config}
use Rattle.cast_model.specs.History.{History}
use Rattle.cast_world.specs.Group.{Stands}
use Rattle.cast_world.specs.Offers.{is_possible, arrival_new}
use Rattle.cast_world.proofs.world.World.offer_arrivals.Given as goal

abbrev pub invariant-loop-seq : goal.invariant-loop-seq
invariant-loop-seq l = (config : Config) (past : History) → Stands config past l.self →
    l.events.items ≡ l.fn.events.items ++ filter (is_possible config past) (flat_map (arrival_new past l.from) (range_with_len 0 l.seq))
