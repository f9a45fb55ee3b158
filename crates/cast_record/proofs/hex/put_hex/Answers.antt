use Rattle.std.proofs.Common.{arith, length-set, ℕ}
use Rattle.cast_record.proofs.HexLemmas.{two_more, all_put}
use Rattle.cast_record.proofs.hex.put_hex.Goals as goal

pub loop-i-preserved : goal.loop-i-preserved
loop-i-preserved c = record {
  places = omega (arith, length-set {A = ℕ});
  put = two_more c.args.bytes.now c.loop-i.digits c.loop-i.i _ _ (omega arith) (omega arith) c.hex_digit.ensures c.hex_digit-in-loop-i.ensures c.loop-i.invariant.put;
}

pub returns : goal.returns
returns c = all_put c.args.bytes.now c.loop-i.digits c.loop-i.i (omega arith) (omega arith) c.loop-i.invariant.put
