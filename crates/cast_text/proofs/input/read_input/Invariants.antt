use Rattle.std.proofs.Common.{◌≡◌, ◌≤◌, ◌-◌, length}
use Rattle.cast_text.proofs.InputLemmas.{HasGiven}
use Rattle.cast_text.proofs.input.read_input.Given as goal

abbrev pub invariant-loop-count : goal.invariant-loop-count
invariant-loop-count g l = record {
  room : length l.chunk ≡ 65536;
  short : length l.bytes.items ≤ 67108864;
  given : HasGiven (g.R.Read.remaining l.fn.reader.inner) (g.R.Read.remaining l.reader.inner) l.reader.failed l.bytes.items;
}

abbrev pub decreases-loop-count : goal.decreases-loop-count
decreases-loop-count g l = 67108865 - length l.bytes.items
