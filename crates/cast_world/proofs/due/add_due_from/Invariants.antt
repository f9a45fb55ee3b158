-- What is due to the nodes so far.
use Rattle.std.proofs.Common.{◌≡◌, ◌++◌}
use Rattle.std.specs.List.{filter, flat_map, range_with_len}
use Rattle.cast_world.specs.Group.{node_at}
use Rattle.cast_world.specs.Plans.{due_between_at, IsBounded}
use Rattle.cast_world.proofs.due.add_due_from.Given as goal

abbrev pub invariant-loop-taker : goal.invariant-loop-taker
invariant-loop-taker l = IsBounded l.world → l.due ≡ l.fn.due ++ flat_map (due_between_at l.world l.giver) (filter (λ p. (node_at l.world p).live) (range_with_len 0 l.taker))
