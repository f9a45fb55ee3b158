-- The right to free a block of the C library's heap, as the allocator `Global` has it.
use Rattle.std.specs.Global.{Global}
use Rattle.std.specs.contracts.impls.GlobalAllocator.TheImpl.{ghosts}
use mir.Syntax.{Ty}
use base.Fml.{Fml}
use denote.RawPtr.{Ptr}

-- the only heap
abbrev pub heap : Global
heap = record { memory = record { seal = tt } }

abbrev pub freeing : Ty → Ptr → Fml
freeing = ghosts.dealloc_token heap
