use Rattle.std.proofs.Common.{get_or, refl, string_bytes}
use Rattle.cast_record.specs.Shown.{shown_byte}
use Rattle.cast_record.proofs.ShownLemmas.{flat_map-more}
use Rattle.cast_record.proofs.shown.escaped.Goals as goal

pub loop-byte-preserved : goal.loop-byte-preserved
loop-byte-preserved c =
    flat_map-more shown_byte c.args.bytes.now c.loop-byte.byte-index (get_or c.args.bytes.now c.loop-byte.byte-index 0) 0 (string_bytes c.loop-byte.text) (string_bytes c.put_byte.new.text)
    c.loop-byte-test.true refl c.loop-byte.invariant c.in_ok-put_byte.ensures
