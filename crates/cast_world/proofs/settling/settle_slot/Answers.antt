use Rattle.std.proofs.Common.{refl}
use Rattle.cast_world.proofs.Settled.{slot_settles}
use Rattle.cast_world.proofs.settling.settle_slot.Goals as goal

pub returns-clause-settles : goal.returns-clause-settles
returns-clause-settles c _ =
    slot_settles c.args.giver.now c.args.taker.now c.settle_given.new.self c.settle_taken.new.self c.args.carried.now.items c.reserve.new.self.items c.push_reserved.new.self.items c.args.told.now.items c.reserve-else-is_err.new.self.items c.push_reserved-2.new.self.items
    c.id-from.result c.id-to.result c.args.slot c.in-Some.sent.sender c.in-Some.sent.number c.id-from.ensures c.id-to.ensures c.in-Some.ensures.may (c.if-not-settle_taken.ensures.took refl) (c.if-not-settle_taken.ensures.small refl) c.settle_given.ensures
    c.reserve.ensures.items c.reserve-else-is_err.ensures.items c.push_reserved.ensures.items c.push_reserved-2.ensures.items
