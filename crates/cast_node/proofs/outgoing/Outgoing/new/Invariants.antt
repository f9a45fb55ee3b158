use Rattle.std.proofs.Common.{◌≡◌, replicate}
use Rattle.std.specs.FinMap as map
use Rattle.cast_node.specs.Giving.{bare}
use Rattle.cast_node.proofs.outgoing.Outgoing.new.Given as goal

abbrev pub invariant-loop-peer : goal.invariant-loop-peer
invariant-loop-peer l = bare l.links.items ≡ replicate l._peer (record { given = 0; owed = map.empty })
