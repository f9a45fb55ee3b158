use Rattle.std.proofs.Common.{◌∙◌, sym}
use Rattle.cast_world.proofs.Running.{settled}
use Rattle.cast_live.proofs.walk.take_step.Goals as goal

pub returns-clause-step : goal.returns-clause-step
returns-clause-step c config past stands =
    settled config past c.args.event.now c.step-reply.result c.step-reply.new.self (c.step-reply.ensures.stands config past stands) (sym c.is_want_of_memory.ensures ∙ c.if-is_want_of_memory.false)
