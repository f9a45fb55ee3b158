use Rattle.std.proofs.Common.{arith}
use Rattle.std.proofs.lemmas.Grind.{common_steps}
use Rattle.cast_record.proofs.WrittenLemmas.{going_on}
use Rattle.cast_record.proofs.written.write_bytes.Goals as goal

pub loop-rest-preserved : goal.loop-rest-preserved
loop-rest-preserved g c = going_on c.in-Ok.count c.loop-rest.invariant c.in-Ok.ensures.bytes (c.in-Ok.ensures.ok (omega arith)) (grind (arith, common_steps))
