-- Slots that are due, as runs of slots in succession.
--     slots_of run               the slots of a run; rest_of run: those after the first
--     slots_from place runs      the slots of the runs from a place on
use Rattle.std.specs.Prelude.{ℕ, suc, ◌+◌, List, drop, map}
use Rattle.std.specs.List.{flat_map, range_with_len}
use Rattle.cast_model.specs.Rounds.{Due}
use Rattle.cast_world.specs.Plans.{due_of}
use Rattle.cast_world.specs.declared.due_run.Run.{Run}

abbrev pub slots_of : Run → List Due
slots_of run = map (due_of run.from run.to) (range_with_len run.first (suc run.more))

abbrev pub rest_of : Run → List Due
rest_of run = map (due_of run.from run.to) (range_with_len (run.first + 1) run.more)

abbrev pub slots_from : ℕ → List Run → List Due
slots_from place runs = flat_map slots_of (drop place runs)
