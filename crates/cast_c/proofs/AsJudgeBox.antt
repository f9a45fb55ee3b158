-- A judge's box, as the proofs about boxes name it.
use mathlib.Core.List.{[]}
use mir.Syntax.{impl, tnil, dnil}
use Rattle.std.proofs.BoxSteps.Form.{Bx}
use Rattle.std.specs.contracts.alloc.Global as heap
use Rattle.std.specs.contracts.impls.GlobalAllocator.TheImpl.{ghosts, dict}
use Rattle.std.proofs.alloc.Global.TheLaws as heap_laws
use Rattle.cast_judge.specs.contracts.judging.Judging as judging
use Rattle.cast_judge.proofs.judging.Judging.TheLaws as judging_laws

abbrev pub E : Bx
E = record { row = judging.the_row; laws = judging_laws.the_row_laws; al = record { row = heap.the_row; laws = heap_laws.the_row_laws; g = ghosts; d = dict; drops = impl [] tnil dnil } }
