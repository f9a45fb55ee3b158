use Rattle.std.proofs.Common.{decimal}
use Rattle.cast_record.specs.Hex.{hex}
use Rattle.cast_record.proofs.WrittenLemmas.{going_start, going_again, going_more, going_breaks, going_last}
use Rattle.cast_record.proofs.WritingLemmas.{propose-parts}
use Rattle.cast_record.proofs.writing.write_item.Goals as goal

pub returns-in_err-write_bytes-in-Data : goal.returns-in_err-write_bytes-in-Data
returns-in_err-write_bytes-in-Data g c = rw c.in-Data.is (going_breaks _ (hex c.in-Data.payload) c.from_residual.result c.from_residual.ensures.1 (going_start c.requires) c.in_err-write_bytes-in-Data.ensures)

pub returns-in_ok-write_bytes-in-Data : goal.returns-in_ok-write_bytes-in-Data
returns-in_ok-write_bytes-in-Data g c =
    let text = rw c.as_slice.ensures at c.write_hex.ensures in
    rw c.in-Data.is (going_last _ _ c.write_hex.result (going_more (going_start c.requires) c.in_ok-write_bytes-in-Data.ensures) text)

pub returns-in_err-write_bytes-in-Propose : goal.returns-in_err-write_bytes-in-Propose
returns-in_err-write_bytes-in-Propose g c =
    let before = going_again (going_start c.requires) (propose-parts c.in-Propose.instance c.in-Propose.value) in
    rw c.in-Propose.is (going_breaks _ _ c.from_residual-in_err-write_bytes-in-Propose.result c.from_residual-in_err-write_bytes-in-Propose.ensures.1 before c.in_err-write_bytes-in-Propose.ensures)

pub returns-in_err-write_number-in-Propose : goal.returns-in_err-write_number-in-Propose
returns-in_err-write_number-in-Propose g c =
    let before = going_more (going_again (going_start c.requires) (propose-parts c.in-Propose.instance c.in-Propose.value)) c.in_ok-write_bytes-in-Propose.ensures in
    rw c.in-Propose.is (going_breaks _ _ c.from_residual-in_err-write_number-in-Propose.result c.from_residual-in_err-write_number-in-Propose.ensures.1 before c.in_err-write_number-in-Propose.ensures)

pub returns-in_err-write_bytes-in-Propose-2 : goal.returns-in_err-write_bytes-in-Propose-2
returns-in_err-write_bytes-in-Propose-2 g c =
    let before = going_more (going_more (going_again (going_start c.requires) (propose-parts c.in-Propose.instance c.in-Propose.value)) c.in_ok-write_bytes-in-Propose.ensures) c.in_ok-write_number-in-Propose.ensures in
    rw c.in-Propose.is (going_breaks _ (decimal c.in-Propose.value) c.from_residual-in_err-write_bytes-in-Propose-2.result c.from_residual-in_err-write_bytes-in-Propose-2.ensures.1 before c.in_err-write_bytes-in-Propose-2.ensures)

pub returns-in_ok-write_bytes-in-Propose-2 : goal.returns-in_ok-write_bytes-in-Propose-2
returns-in_ok-write_bytes-in-Propose-2 g c =
    let before = going_more (going_more (going_again (going_start c.requires) (propose-parts c.in-Propose.instance c.in-Propose.value)) c.in_ok-write_bytes-in-Propose.ensures) c.in_ok-write_number-in-Propose.ensures in
    rw c.in-Propose.is (going_last _ _ c.write_number-in-Propose.result (going_more before c.in_ok-write_bytes-in-Propose-2.ensures) c.write_number-in-Propose.ensures)
