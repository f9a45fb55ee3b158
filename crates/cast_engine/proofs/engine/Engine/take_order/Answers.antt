use Rattle.std.proofs.Common.{refl, ap}
use Rattle.cast_journal.specs.Journals.{JournalState}
use Rattle.cast_engine.proofs.Staying.{stays_same, stays_halt, stays_ordered, stays_unordered, still_runs}
use Rattle.cast_engine.proofs.Resending.{keeps_same, keeps_halt, keeps_ordered}
use Rattle.cast_engine.proofs.engine.Engine.take_order.Goals as goal
use Rattle.cast_engine.proofs.engine.Engine.take_order.Goals.{then-not-may_log-via-then-not-may_log, then-not-may_log-via-else-not-may_log+then-self}

pub invariant_of-self : goal.invariant_of-self
invariant_of-self g c =
    let i = c.self.inside in
    elim c.then-not-may_log.branch [
      | then-not-may_log-via-then-not-may_log w ↦ (stays_halt i.journal c.may_log.new.self i.outbox.put i.held i.inbox.taken i.waiting _ i.places.items c.self.invariant.0 (w.if-not-may_log.ensures.halts refl) w.if-not-may_log.ensures.late, keeps_halt i.journal c.may_log.new.self i.resend (w.if-not-may_log.ensures.halts refl) c.self.invariant.1)
      | then-not-may_log-via-else-not-may_log+then-self w ↦ (stays_same i.journal c.may_log.new.self i.outbox.put i.held i.inbox.taken i.waiting _ i.places.items c.self.invariant.0 (w.if-not-may_log.ensures.may refl).0, keeps_same i.journal c.may_log.new.self i.resend (ap (λ (j : JournalState). j.node) (w.if-not-may_log.ensures.may refl).0) c.self.invariant.1)
    ]

pub invariant_of-self-in_default : goal.invariant_of-self-in_default
invariant_of-self-in_default g c =
    let i = c.self.inside in
    let j = c.may_log.new.self in
    (stays_unordered j i.outbox.put i.held i.inbox.taken i.waiting _ _ i.places.items (stays_same i.journal j i.outbox.put i.held i.inbox.taken i.waiting _ i.places.items c.self.invariant.0 (c.if-not-may_log.ensures.may refl).0) c.in_default.ensures.taken, keeps_same i.journal j i.resend (ap (λ (j : JournalState). j.node) (c.if-not-may_log.ensures.may refl).0) c.self.invariant.1)

pub invariant_of-self-2 : goal.invariant_of-self-2
invariant_of-self-2 g c =
    let i = c.self.inside in
    let j = c.may_log.new.self in (
      stays_ordered j c.order-delivered.new.self i.outbox.put i.held i.inbox.taken i.waiting _ i.places.items (stays_same i.journal j i.outbox.put i.held i.inbox.taken i.waiting _ i.places.items c.self.invariant.0 (c.if-not-may_log.ensures.may refl).0)
          (still_runs (c.if-not-may_log.ensures.may refl)) c.order-delivered.ensures.ended c.in-Some.order _ c.in-Some.ensures.taken c.order-delivered.ensures.logs,
      keeps_ordered j c.order-delivered.new.self c.in-Some.order i.resend c.given.new.self c.order-delivered.ensures.logs c.given.ensures (keeps_same i.journal j i.resend (ap (λ (j : JournalState). j.node) (c.if-not-may_log.ensures.may refl).0) c.self.invariant.1),
    )
