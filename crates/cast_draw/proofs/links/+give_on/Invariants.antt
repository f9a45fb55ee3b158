use Rattle.std.proofs.Common.{length}
use Rattle.cast_draw.proofs.links.+give_on.Given as goal

abbrev pub decreases-give_on : goal.decreases-give_on
decreases-give_on l = length l.rows.now
