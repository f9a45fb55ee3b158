use Rattle.std.proofs.Common.{◌≡◌, length}
use Rattle.cast_record.specs.Hex.{hex}
use Rattle.cast_record.proofs.WrittenLemmas.{IsGoing}
use Rattle.cast_record.proofs.written.write_hex.Given as goal

abbrev pub invariant-loop-rest : goal.invariant-loop-rest
invariant-loop-rest g l = record {
  places : length l.room ≡ 256;
  going : IsGoing (g.W.Write.contents l.initial.writer.inner) (g.W.Write.contents l.writer.inner) l.writer.failed (hex l.initial.bytes) (hex l.rest);
}

abbrev pub decreases-loop-rest : goal.decreases-loop-rest
decreases-loop-rest g l = length l.rest
