use Rattle.std.proofs.Common.{length}
use Rattle.cast_record.proofs.WrittenLemmas.{IsGoing}
use Rattle.cast_record.proofs.written.write_bytes.Given as goal

abbrev pub invariant-loop-rest : goal.invariant-loop-rest
invariant-loop-rest g l = IsGoing (g.W.Write.contents l.initial.writer.inner) (g.W.Write.contents l.writer.inner) l.writer.failed l.initial.bytes l.rest

abbrev pub decreases-loop-rest : goal.decreases-loop-rest
decreases-loop-rest g l = length l.rest
