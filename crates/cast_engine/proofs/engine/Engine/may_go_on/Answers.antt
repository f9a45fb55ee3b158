use Rattle.cast_engine.proofs.Staying.{stays_asked}
use Rattle.cast_engine.proofs.Resending.{keeps_asked}
use Rattle.cast_engine.proofs.engine.Engine.may_go_on.Goals as goal

pub invariant_of-self : goal.invariant_of-self
invariant_of-self c =
    let i = c.self.inside in
    (stays_asked i.journal _ i.outbox.put i.held i.inbox.taken i.waiting _ i.places.items c.may_log.result c.self.invariant.0 c.may_log.ensures.may c.may_log.ensures.halts c.may_log.ensures.late, keeps_asked i.journal _ i.resend c.may_log.result c.may_log.ensures.may c.may_log.ensures.halts c.self.invariant.1)
