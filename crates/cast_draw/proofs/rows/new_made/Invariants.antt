use Rattle.std.proofs.Common.{◌≡◌, [], replicate}
use Rattle.cast_draw.proofs.rows.new_made.Given as goal

abbrev pub invariant-loop-node : goal.invariant-loop-node
invariant-loop-node l = l.made.items ≡ replicate l._node []
