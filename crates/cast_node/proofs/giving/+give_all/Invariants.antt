use Rattle.std.proofs.Common.{length}
use Rattle.cast_node.proofs.giving.+give_all.Given as goal

abbrev pub decreases-give_all : goal.decreases-give_all
decreases-give_all l = length l.links.now
