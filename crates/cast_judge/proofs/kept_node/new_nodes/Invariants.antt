use Rattle.std.proofs.Common.{◌≡◌, replicate}
use Rattle.cast_judge.specs.Kept.{nobody}
use Rattle.cast_judge.proofs.kept_node.new_nodes.Given as goal

abbrev pub invariant-loop : goal.invariant-loop
invariant-loop l = l.nodes.items ≡ replicate l.counter nobody
