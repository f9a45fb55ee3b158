-- What is due of the nodes so far.
use Rattle.std.proofs.Common.{◌≡◌}
use Rattle.std.specs.List.{filter, flat_map, range_with_len}
use Rattle.cast_world.specs.Group.{node_at}
use Rattle.cast_world.specs.Plans.{live_at, due_between_at, IsBounded}
use Rattle.cast_world.proofs.due.find_due.Given as goal

abbrev pub invariant-loop-giver : goal.invariant-loop-giver
invariant-loop-giver l = IsBounded l.world → l.due ≡ flat_map (λ p. flat_map (due_between_at l.world p) (live_at l.world)) (filter (λ p. (node_at l.world p).live) (range_with_len 0 l.giver))
