use Rattle.std.proofs.Common.{length}
use Rattle.cast_node.proofs.giving.+reserve_all.Given as goal

abbrev pub decreases-reserve_all : goal.decreases-reserve_all
decreases-reserve_all l = length l.links.now
