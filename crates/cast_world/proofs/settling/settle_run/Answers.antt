use Rattle.std.proofs.Common.{◌-◌, arith, refl}
use Rattle.cast_world.specs.Settled.{ends}
use Rattle.cast_world.proofs.Settled.{settles_none, settles_next, settles_same}
use Rattle.cast_world.proofs.settling.settle_run.Goals as goal

pub loop-slot-init : goal.loop-slot-init
loop-slot-init c =
    settles_same (ends c.args.giver.now c.args.taker.now c.args.carried.now.items c.args.told.now.items) c.args.first 0 (c.args.first - c.args.first) _ (omega arith) (settles_none _)

pub loop-slot-preserved : goal.loop-slot-preserved
loop-slot-preserved c =
    settles_next _ c.args.first c.loop-slot.slot _ _ c.loop-slot.auto.slot c.loop-slot.invariant (c.if-not-settle_slot.ensures.settles refl)

pub returns-clause-settles : goal.returns-clause-settles
returns-clause-settles c =
    let past = c.loop-slot-test.false in
    let within = c.loop-slot.auto.slot-end c.requires in
    settles_same _ c.args.first (c.loop-slot.slot - c.args.first) (c.args.end - c.args.first) _ (omega (arith, past, within)) c.loop-slot.invariant
