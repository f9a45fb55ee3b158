use Rattle.std.proofs.Common.{◌≡◌, map}
use Rattle.std.specs.List.{range_with_len}
use Rattle.cast_draw.specs.Gifts.{nothing_given}
use Rattle.cast_draw.proofs.rows.new_links.Given as goal

abbrev pub invariant-loop-node : goal.invariant-loop-node
invariant-loop-node l = l.links.items ≡ map (nothing_given l.fn.nodes) (range_with_len 0 l.node)
