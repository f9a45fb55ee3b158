use Rattle.std.proofs.Common.{◌≡◌, ◌*◌, length, take}
use Rattle.cast_record.specs.Hex.{hex}
use Rattle.cast_record.proofs.hex.put_hex.Given as goal

abbrev pub invariant-loop-i : goal.invariant-loop-i
invariant-loop-i l = record {
  places : length l.digits ≡ 2 * length l.bytes;
  put : take (2 * l.i) l.digits ≡ hex (take l.i l.bytes);
}
