-- The first of the slots were settled, and taken off.
use Rattle.std.proofs.Common.{length}
use Rattle.cast_world.specs.Settled.{SettlesFront}
use Rattle.cast_world.proofs.world.World.settle_while_silent.Given as goal

abbrev pub invariant-runs : goal.invariant-runs
invariant-runs l = SettlesFront l.fn.self l.fn.due l.due l.self

abbrev pub decreases-runs : goal.decreases-runs
decreases-runs l = length l.due
