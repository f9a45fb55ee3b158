use Rattle.cast_record.proofs.UnhexLemmas.{Stands}
use Rattle.cast_record.proofs.unhex.put_bytes.Given as goal

abbrev pub invariant-loop-i : goal.invariant-loop-i
invariant-loop-i l = Stands l.digits l.bytes l.i l.greatest
