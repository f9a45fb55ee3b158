use Rattle.std.proofs.Common.{map}
use Rattle.cast_record.proofs.WrittenLemmas.{going_start, going_again, going_more, going_breaks, going_last}
use Rattle.cast_script.specs.Cells.{cell_text}
use Rattle.cast_script.specs.Replay.{word_text}
use Rattle.cast_script.proofs.ReplayWriting.{no_cell, array-parts, cells-next, cells-end}
use Rattle.cast_script.proofs.replay.write_cells.Goals as goal

pub returns-in_err-write_bytes : goal.returns-in_err-write_bytes
returns-in_err-write_bytes g c = going_breaks _ _ c.from_residual.result c.from_residual.ensures.1 (going_again (going_start c.requires) (array-parts (word_text c.args.name.now) (map cell_text c.args.cells.now))) c.in_err-write_bytes.ensures

pub returns-in_err-write_word : goal.returns-in_err-write_word
returns-in_err-write_word g c = going_breaks _ _ c.from_residual-in_err-write_word.result c.from_residual-in_err-write_word.ensures.1 (going_more (going_again (going_start c.requires) (array-parts (word_text c.args.name.now) (map cell_text c.args.cells.now))) c.in_ok-write_bytes.ensures) c.in_err-write_word.ensures

pub loop-cell-init : goal.loop-cell-init
loop-cell-init g c = going_more (going_more (going_again (going_start c.requires) (array-parts (word_text c.args.name.now) (map cell_text c.args.cells.now))) c.in_ok-write_bytes.ensures) c.in_ok-write_word.ensures

pub returns-in_err-write_bytes-2 : goal.returns-in_err-write_bytes-2
returns-in_err-write_bytes-2 g c =
    let next = cells-next c.args.cells.now c.loop-cell.cell-index no_cell c.loop-cell-test.true in
    going_breaks _ _ c.from_residual-in_err-write_bytes-2.result c.from_residual-in_err-write_bytes-2.ensures.1 (going_again c.loop-cell.invariant next) c.in_err-write_bytes-2.ensures

pub returns-in_err-write_cell : goal.returns-in_err-write_cell
returns-in_err-write_cell g c =
    let next = cells-next c.args.cells.now c.loop-cell.cell-index _ c.loop-cell-test.true in
    going_breaks _ _ c.from_residual-in_err-write_cell.result c.from_residual-in_err-write_cell.ensures.1 (going_more (going_again c.loop-cell.invariant next) c.in_ok-write_bytes-2.ensures) c.in_err-write_cell.ensures

pub loop-cell-preserved : goal.loop-cell-preserved
loop-cell-preserved g c =
    let next = cells-next c.args.cells.now c.loop-cell.cell-index _ c.loop-cell-test.true in
    going_more (going_more (going_again c.loop-cell.invariant next) c.in_ok-write_bytes-2.ensures) c.in_ok-write_cell.ensures

pub returns : goal.returns
returns g c = going_last _ _ c.write_bytes-2.result (going_again c.loop-cell.invariant (cells-end c.args.cells.now c.loop-cell.cell-index c.loop-cell-test.false)) c.write_bytes-2.ensures
