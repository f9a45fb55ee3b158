use Rattle.std.proofs.Common.{arith}
use Rattle.cast_model.specs.Steps.{Ordered}
use Rattle.cast_node.specs.Calls.{asked_reply}
use Rattle.cast_world.proofs.Sounding.{sound_stepped}
use Rattle.cast_world.proofs.world.World.order.Goals as goal

pub invariant_of-self-2 : goal.invariant_of-self-2
invariant_of-self-2 c =
    sound_stepped _ c.self.invariant c.from-place.result (omega (arith, c.if-place-len.false, c.len.ensures)) c.index_mut.result.now c.order_asked.new.self c.index_mut.ensures.value (Ordered c.in_ok-item.item) (asked_reply c.order_asked.result) c.order_asked.ensures.exact
