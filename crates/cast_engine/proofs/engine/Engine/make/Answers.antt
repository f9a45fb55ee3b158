use Rattle.std.proofs.Common.{refl, sym, ap, ◌∙◌}
use Rattle.cast_journal.specs.Journals.{JournalState}
use Rattle.cast_engine.proofs.Staying.{stays_same, stays_halt, stays_made, still_runs, none_held}
use Rattle.cast_engine.proofs.Resending.{keeps_same, keeps_halt, keeps_made}
use Rattle.cast_engine.proofs.engine.Engine.make.Goals as goal

pub invariant_of-self : goal.invariant_of-self
invariant_of-self g c =
    let i = c.self.inside in
    (stays_halt i.journal c.may_log.new.self i.outbox.put i.held i.inbox.taken i.waiting _ i.places.items c.self.invariant.0 (c.if-not-may_log.ensures.halts refl) c.if-not-may_log.ensures.late, keeps_halt i.journal c.may_log.new.self i.resend (c.if-not-may_log.ensures.halts refl) c.self.invariant.1)

pub invariant_of-self-2 : goal.invariant_of-self-2
invariant_of-self-2 g c =
    let i = c.self.inside in
    let j = c.may_log.new.self in (
      stays_made j c.make.new.self i.outbox.put i.held i.inbox.taken i.waiting _ i.places.items (stays_same i.journal j i.outbox.put i.held i.inbox.taken i.waiting _ i.places.items c.self.invariant.0 (c.if-not-may_log.ensures.may refl).0)
          (still_runs (c.if-not-may_log.ensures.may refl)) c.make.ensures.ended _ _ c.in-Ok.parcel _ c.in-Ok.ensures.parcel.1 (none_held i.held (sym c.is_some.ensures ∙ c.if-is_some.false)) c.hand.ensures.handed c.args.kind c.args.to c.args.slot c.in-Ok.ensures.ok c.in-Ok.ensures.parcel.0,
      keeps_made j c.make.new.self c.args.kind c.args.to c.args.slot _ c.in-Ok.ensures.ok i.resend (keeps_same i.journal j i.resend (ap (λ (j : JournalState). j.node) (c.if-not-may_log.ensures.may refl).0) c.self.invariant.1),
    )
