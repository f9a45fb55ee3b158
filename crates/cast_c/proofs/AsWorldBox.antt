-- A world's box, as the proofs about boxes name it.
use mathlib.Core.List.{[]}
use mir.Syntax.{impl, tnil, dnil}
use Rattle.std.proofs.BoxSteps.Form.{Bx}
use Rattle.std.specs.contracts.alloc.Global as heap
use Rattle.std.specs.contracts.impls.GlobalAllocator.TheImpl.{ghosts, dict}
use Rattle.std.proofs.alloc.Global.TheLaws as heap_laws
use Rattle.cast_world.specs.contracts.world.World as world
use Rattle.cast_world.proofs.world.World.TheLaws as world_laws

abbrev pub E : Bx
E = record { row = world.the_row; laws = world_laws.the_row_laws; al = record { row = heap.the_row; laws = heap_laws.the_row_laws; g = ghosts; d = dict; drops = impl [] tnil dnil } }
