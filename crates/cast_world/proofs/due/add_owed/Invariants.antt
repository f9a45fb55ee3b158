-- The slots owed below the number that is looked at next.
use Rattle.std.proofs.Common.{◌≡◌, ◌-◌, ◌++◌, map}
use Rattle.std.specs.Prelude.{◌^◌}
use Rattle.cast_node.specs.Kept.{link_to}
use Rattle.cast_world.specs.Plans.{due_of, owed_below}
use Rattle.cast_world.proofs.due.add_owed.Given as goal

abbrev pub invariant-loop-first : goal.invariant-loop-first
invariant-loop-first l = l.due ≡ l.fn.due ++ map (due_of l.giver l.taker) (owed_below l.from (link_to l.node l.taker))

abbrev pub decreases-loop-first : goal.decreases-loop-first
decreases-loop-first l = 2 ^ 64 - l.from
