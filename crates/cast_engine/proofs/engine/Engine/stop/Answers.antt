use Rattle.std.proofs.Common.{ap}
use Rattle.cast_journal.specs.Journals.{JournalState}
use Rattle.cast_engine.proofs.Staying.{stays_asked, stays_stopped}
use Rattle.cast_engine.proofs.Resending.{keeps_asked, keeps_same}
use Rattle.cast_engine.proofs.engine.Engine.stop.Goals as goal

pub invariant_of-self : goal.invariant_of-self
invariant_of-self c =
    let i = c.self.inside in
    let asked = stays_asked i.journal _ i.outbox.put i.held i.inbox.taken i.waiting _ i.places.items c.may_log.result c.self.invariant.0 c.may_log.ensures.may c.may_log.ensures.halts c.may_log.ensures.late in
    let kept = keeps_asked i.journal c.may_log.new.self i.resend c.may_log.result c.may_log.ensures.may c.may_log.ensures.halts c.self.invariant.1 in
    (stays_stopped c.may_log.new.self _ i.outbox.put i.held i.inbox.taken i.waiting _ i.places.items asked c.end.ensures, keeps_same c.may_log.new.self c.end.new.self i.resend (ap (λ (j : JournalState). j.node) c.end.ensures) kept)

pub invariant_of-self-else-may_log : goal.invariant_of-self-else-may_log
invariant_of-self-else-may_log c =
    let i = c.self.inside in
    (stays_asked i.journal _ i.outbox.put i.held i.inbox.taken i.waiting _ i.places.items c.may_log.result c.self.invariant.0 c.may_log.ensures.may c.may_log.ensures.halts c.may_log.ensures.late, keeps_asked i.journal _ i.resend c.may_log.result c.may_log.ensures.may c.may_log.ensures.halts c.self.invariant.1)
