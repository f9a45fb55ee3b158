use Rattle.cast_message.specs.declared.event.Event.TheVariants.{Order, Send, Ack, Crash}
use Rattle.cast_model.specs.Steps.{Ordered, Sent, Acknowledged, Stopped}
use Rattle.cast_model.specs.OwnSteps.{orders, sends, acknowledges, stops}
use Rattle.cast_world.proofs.Faults.{by_nobody, by_actor, by_crash}
use Rattle.cast_world.proofs.world.World.fault.Goals as goal

pub returns-in_default : goal.returns-in_default
returns-in_default c config past st = by_nobody config past c.args.self.now st c.args.event.now c.actor.result c.actor.ensures c.in_default.ensures

pub returns-in-Order : goal.returns-in-Order
returns-in-Order c config past st =
    by_actor config past c.args.self.now st c.args.event.now (Order c.in-Order.node c.in-Order.item) (Ordered c.in-Order.item) c.actor.result c.in-Some.node.now c.order_fault.result c.in-Order.is c.actor.ensures c.in-Some.ensures c.order_fault.ensures (orders c.in-Order.item)

pub returns-in-Send : goal.returns-in-Send
returns-in-Send c config past st =
    by_actor config past c.args.self.now st c.args.event.now (Send c.in-Send.from c.in-Send.to c.in-Send.slot) (Sent c.in-Send.to c.in-Send.slot) c.actor.result c.in-Some.node.now c.send_fault.result c.in-Send.is c.actor.ensures c.in-Some.ensures c.send_fault.ensures (sends c.in-Send.to c.in-Send.slot)

pub returns-in-Ack : goal.returns-in-Ack
returns-in-Ack c config past st =
    by_actor config past c.args.self.now st c.args.event.now (Ack c.in-Ack.from c.in-Ack.to c.in-Ack.slot) (Acknowledged c.in-Ack.to c.in-Ack.slot) c.actor.result c.in-Some.node.now c.ack_fault.result c.in-Ack.is c.actor.ensures c.in-Some.ensures c.ack_fault.ensures (acknowledges c.in-Ack.to c.in-Ack.slot)

pub returns-in-Crash : goal.returns-in-Crash
returns-in-Crash c config past st =
    by_actor config past c.args.self.now st c.args.event.now (Crash c.in-Crash.node) Stopped c.actor.result c.in-Some.node.now c.arrive_fault.result c.in-Crash.is c.actor.ensures c.in-Some.ensures (by_crash config past c.args.self.now st c.in-Some.node.now c.arrive_fault.result c.arrive_fault.ensures) stops
