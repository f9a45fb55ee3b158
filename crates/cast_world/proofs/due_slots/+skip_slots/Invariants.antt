use Rattle.std.proofs.Common.{◌-◌, length}
use Rattle.cast_world.proofs.due_slots.+skip_slots.Given as goal

abbrev pub decreases-skip_slots : goal.decreases-skip_slots
decreases-skip_slots l = length l.runs.now.items - l.place
