-- The slots so far were settled.
use Rattle.std.proofs.Common.{◌-◌}
use Rattle.std.specs.List.{range_with_len}
use Rattle.cast_world.specs.Settled.{ends, SettlesSlots}
use Rattle.cast_world.proofs.settling.settle_run.Given as goal

abbrev pub invariant-loop-slot : goal.invariant-loop-slot
invariant-loop-slot l =
    SettlesSlots (ends l.fn.giver l.fn.taker l.fn.carried.items l.fn.told.items) (range_with_len l.first (l.slot - l.first)) (ends l.giver l.taker l.carried.items l.told.items)
