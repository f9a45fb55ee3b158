use Rattle.cast_engine.proofs.Staying.{stays_halt}
use Rattle.cast_engine.proofs.Resending.{keeps_halt}
use Rattle.cast_engine.proofs.engine.Engine.count_turn.Goals as goal

pub invariant_of-self : goal.invariant_of-self
invariant_of-self c =
    let i = c.self.inside in
    (stays_halt i.journal c.count_turn.new.self i.outbox.put i.held i.inbox.taken i.waiting _ i.places.items c.self.invariant.0 c.count_turn.ensures.halts c.count_turn.ensures.late, keeps_halt i.journal c.count_turn.new.self i.resend c.count_turn.ensures.halts c.self.invariant.1)
