use Rattle.std.proofs.Common.{arith, ◌∙◌}
use Rattle.cast_record.proofs.HexLemmas.{hex-parts, room_kept}
use Rattle.cast_record.proofs.WrittenLemmas.{going_again, going_more, going_breaks}
use Rattle.cast_record.proofs.written.write_hex.Goals as goal

pub returns-in_err-write_bytes : goal.returns-in_err-write_bytes
returns-in_err-write_bytes g c =
    let next = hex-parts c.loop-rest.rest.now _ _ _ _ c.split_at.ensures.front c.split_at.ensures.back c.put_hex.ensures in
    going_breaks _ _ c.from_residual.result c.from_residual.ensures.1 (going_again c.loop-rest.invariant.going next) c.in_err-write_bytes.ensures

pub loop-rest-preserved : goal.loop-rest-preserved
loop-rest-preserved g c =
    let next = hex-parts c.loop-rest.rest.now _ _ _ _ c.split_at.ensures.front c.split_at.ensures.back c.put_hex.ensures in
    record {
      places = room_kept c.split_at.result.0.now c.put_hex.new.digits c.loop-rest.room c.put_hex.ensures (omega arith) ∙ c.loop-rest.invariant.places;
      going = going_more (going_again c.loop-rest.invariant.going next) c.in_ok-write_bytes.ensures;
    }
