use Rattle.std.proofs.Common.{drop, map, ◌++◌, ◌∷◌, []}
use Rattle.std.specs.List.{join_with_byte}
use Rattle.cast_record.proofs.WrittenLemmas.{IsGoing}
use Rattle.cast_script.specs.Cells.{cell_text}
use Rattle.cast_script.specs.Replay.{word_text}
use Rattle.cast_script.proofs.ReplayWriting.{cells_text}
use Rattle.cast_script.proofs.replay.write_cells.Given as goal

abbrev pub invariant-loop-cell : goal.invariant-loop-cell
invariant-loop-cell g l = IsGoing (g.W.Write.contents l.fn.writer.inner) (g.W.Write.contents l.writer.inner) l.writer.failed
    (91 ∷ join_with_byte 44 (word_text l.name ∷ map cell_text l.cells) ++ 93 ∷ [])
    (cells_text (map cell_text (drop l.cell-index l.cells)) ++ 93 ∷ [])
