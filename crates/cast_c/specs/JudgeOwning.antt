-- What the pointer in a judge's handle owns: the judge and the right to free its block, if it holds one.
use Rattle.std.specs.Prelude.{Option, Some, None}
use Rattle.std.specs.Coded.{Coded, coded_option}
use Rattle.std.specs.Box.Ownership.{box_owns}
use Rattle.cast_c.specs.Freeing.{freeing}
use base.Fml.{Fml, ftrue}
use denote.RawPtr.{Ptr}
use Rattle.cast_judge.specs.contracts.judging.Judging.{the_row}

abbrev pub judge_owns : Ptr → Option the_row.Denot → Fml
judge_owns at (Some judging) = box_owns freeing the_row at judging
judge_owns at None = ftrue

-- how the logic stores such a value
abbrev pub judge_coded : Coded (Option the_row.Denot)
judge_coded = coded_option the_row.coded
