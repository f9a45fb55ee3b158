use Rattle.cast_record.proofs.UnhexLemmas.{stands_first, stands_next, all_stand}
use Rattle.std.proofs.Common.{arith}
use Rattle.cast_record.proofs.unhex.put_bytes.Goals as goal

pub loop-i-init : goal.loop-i-init
loop-i-init c = stands_first c.args.digits.now c.args.bytes.now (omega arith)

pub loop-i-preserved : goal.loop-i-preserved
loop-i-preserved c =
    stands_next c.args.digits.now c.loop-i.bytes c.loop-i.i c.digit-high.result c.digit-low.result c.loop-i.greatest c.max-greatest.result (omega arith) (omega arith) c.digit-high.ensures c.digit-low.ensures c.loop-i.invariant

pub returns : goal.returns
returns c = all_stand c.args.digits.now c.loop-i.bytes c.loop-i.i c.loop-i.greatest (omega arith) c.loop-i.invariant
