use Rattle.cast_record.proofs.WrittenLemmas.{going_start, going_more, going_breaks, going_last}
use Rattle.cast_live.proofs.summary.write_count.Goals as goal

pub returns-in_err-write_bytes : goal.returns-in_err-write_bytes
returns-in_err-write_bytes g c = going_breaks _ _ c.from_residual.result c.from_residual.ensures.1 (going_start c.requires) c.in_err-write_bytes.ensures

pub returns : goal.returns
returns g c = going_last _ _ c.write_number.result (going_more (going_start c.requires) c.in_ok-write_bytes.ensures) c.write_number.ensures
