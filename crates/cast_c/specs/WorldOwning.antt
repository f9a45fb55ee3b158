-- What the pointer in a group's handle owns: the group and the right to free its block, if it holds one.
use Rattle.std.specs.Prelude.{Option, Some, None}
use Rattle.std.specs.Coded.{Coded, coded_option}
use Rattle.std.specs.Box.Ownership.{box_owns}
use Rattle.cast_c.specs.Freeing.{freeing}
use base.Fml.{Fml, ftrue}
use denote.RawPtr.{Ptr}
use Rattle.cast_world.specs.contracts.world.World.{the_row}

abbrev pub world_owns : Ptr → Option the_row.Denot → Fml
world_owns at (Some world) = box_owns freeing the_row at world
world_owns at None = ftrue

-- how the logic stores such a value
abbrev pub world_coded : Coded (Option the_row.Denot)
world_coded = coded_option the_row.coded
