use Rattle.std.proofs.Common.{arith}
use Rattle.cast_world.proofs.FirstDue.{stops_full, stops_wanting, nothing_due}
use Rattle.cast_world.proofs.world.World.unlisted.Goals as goal

pub returns-in-Some : goal.returns-in-Some
returns-in-Some c config past st =
    stops_full config past c.args.self.now st c.in-Some.giver (c.in-Some.ensures config past st) (omega (arith, c.frame_count.ensures.value, c.if-frame_count-ge-FRAME_LIMIT.true))

pub returns-in-Some-2 : goal.returns-in-Some-2
returns-in-Some-2 c config past st =
    stops_wanting config past c.args.self.now st c.in-Some.giver (c.in-Some.ensures config past st) (omega (arith, c.frame_count.ensures.value, c.if-frame_count-ge-FRAME_LIMIT.false))

pub returns-in-None : goal.returns-in-None
returns-in-None c config past st = nothing_due config past c.args.self.now st (c.in-None.ensures config past st)
