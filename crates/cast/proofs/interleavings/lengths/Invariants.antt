use Rattle.std.proofs.Common.{◌≡◌, take, map, length}
use Rattle.cast.proofs.interleavings.lengths.Given as goal

abbrev pub invariant-loop-stream : goal.invariant-loop-stream
invariant-loop-stream l = l.counts.items ≡ map length (take l.stream-index l.streams)
