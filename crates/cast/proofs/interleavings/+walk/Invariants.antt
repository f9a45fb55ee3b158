use Rattle.std.proofs.Common.{◌≡◌, ◌-◌, true}
use Rattle.std.specs.List.{flat_map, range_with_len}
use Rattle.cast.specs.Orders.{Visits}
use Rattle.cast.proofs.Walks.{with_next}
use Rattle.cast.proofs.interleavings.+walk.Given as goal

abbrev pub decreases-walk : goal.decreases-walk
decreases-walk g l = l.steps

abbrev pub invariant-loop-sender : goal.invariant-loop-sender
invariant-loop-sender g l =
    (l.order.items ≡ l.fn.order.items)
    × Visits g.V.OrderVisitor.sees l.fn.visitor (flat_map (with_next l.counts (l.steps - 1) l.fn.order.items) (range_with_len 0 l.sender)) l.visitor true
