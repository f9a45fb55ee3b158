use Rattle.std.proofs.Common.{◌-◌}
use Rattle.cast_peer.proofs.news.next_news.Given as goal

abbrev pub decreases-loop-place : goal.decreases-loop-place
decreases-loop-place l = l.end - l.place.entry
