use Rattle.std.proofs.Common.{◌∙◌, sym}
use Rattle.cast_message.specs.declared.event.Event.TheVariants.{Send, Ack, Arrive}
use Rattle.cast_world.proofs.Steps.{made_silently, arrived_silently}
use Rattle.cast_world.proofs.world.World.step_if_silent.Goals as goal

pub returns-in-Send-clause-took : goal.returns-in-Send-clause-took
returns-in-Send-clause-took c silent config past st = rw c.in-Send.is (made_silently config past c.args.self.now st (Send c.in-Send.from c.in-Send.to c.in-Send.slot) c.make.new.self c.make.result c.make.ensures (sym c.is_ok.ensures.value ∙ silent))

pub returns-in-Ack-clause-took : goal.returns-in-Ack-clause-took
returns-in-Ack-clause-took c silent config past st = rw c.in-Ack.is (made_silently config past c.args.self.now st (Ack c.in-Ack.from c.in-Ack.to c.in-Ack.slot) c.make-in-Ack.new.self c.make-in-Ack.result c.make-in-Ack.ensures (sym c.is_ok-in-Ack.ensures.value ∙ silent))

pub returns-in-Arrive-clause-took : goal.returns-in-Arrive-clause-took
returns-in-Arrive-clause-took c silent config past st = rw c.in-Arrive.is (arrived_silently config past c.args.self.now st (Arrive c.in-Arrive.from c.in-Arrive.seq) c.arrive_silently.new.self c.arrive_silently.result c.arrive_silently.ensures.took (sym c.is_some.ensures ∙ silent))
