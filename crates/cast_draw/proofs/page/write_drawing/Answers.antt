use Rattle.std.proofs.Common.{◌++◌, sym}
use Rattle.cast_record.proofs.WrittenLemmas.{going_start, going_again, going_more, going_breaks, going_last}
use Rattle.cast_draw.proofs.page.write_drawing.Goals as goal

pub returns-in_err-write_bytes : goal.returns-in_err-write_bytes
returns-in_err-write_bytes g c =
    let front = rw c.as_slice.ensures at c.in_err-write_bytes.ensures in
    going_breaks _ (c.drawing.inside.arrows ++ c.drawing.inside.marks) c.from_residual.result c.from_residual.ensures.1 (going_again (going_start c.requires) (sym c.drawing.view_is)) front

pub returns-in_err-write_bytes-2 : goal.returns-in_err-write_bytes-2
returns-in_err-write_bytes-2 g c =
    let front = rw c.as_slice.ensures at c.in_ok-write_bytes.ensures in
    let arrows = rw c.as_slice-2.ensures at c.in_err-write_bytes-2.ensures in
    going_breaks _ c.drawing.inside.marks c.from_residual-in_err-write_bytes-2.result c.from_residual-in_err-write_bytes-2.ensures.1 (going_more (going_again (going_start c.requires) (sym c.drawing.view_is)) front) arrows

pub returns : goal.returns
returns g c =
    let front = rw c.as_slice.ensures at c.in_ok-write_bytes.ensures in
    let arrows = rw c.as_slice-2.ensures at c.in_ok-write_bytes-2.ensures in
    let marks = rw c.as_slice-3.ensures at c.write_bytes-3.ensures in
    going_last _ _ c.write_bytes-3.result (going_more (going_more (going_again (going_start c.requires) (sym c.drawing.view_is)) front) arrows) marks
