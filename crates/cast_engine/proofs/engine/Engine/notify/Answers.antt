use Rattle.std.proofs.Common.{refl}
use Rattle.cast_box.specs.Ends.{IsSameTaker}
use Rattle.cast_box.proofs.Same.{taker_same}
use Rattle.cast_engine.specs.Engines.{EngineState, IsSameEngine}
use Rattle.cast_engine.proofs.Again.{desk_used}
use Rattle.std.proofs.Common.{◌∙◌, ap, sym, subst, Option, Some, List}
use Rattle.cast_log.specs.declared.entry.Entry.{Entry}
use Rattle.cast_desk.specs.declared.desk.Desk.{Desk}
use Rattle.cast_journal.specs.declared.order.OrderIn.{OrderIn}
use Rattle.cast_box.specs.Ends.{TakerEnd}
use Rattle.cast_engine.specs.Engines.{trays_at, taken_at}
use Rattle.cast_engine.specs.Feeding.{AreFed}
use Rattle.cast_engine.proofs.Staying.{stays_told}
use Rattle.cast_engine.proofs.engine.Engine.notify.Goals as goal

pub notify_all-requires : goal.notify_all-requires
notify_all-requires g c =
    let i = c.self.inside in
    subst (λ (l : List Entry). AreFed l c.in-Some.desk.trays.items i.places.items) (sym c.log.ensures)
    (subst (λ (o : Option Desk). AreFed i.journal.log (trays_at o) i.places.items) c.in-Some.is c.self.invariant.0.fed)

pub invariant_of-self : goal.invariant_of-self
invariant_of-self g c =
    let i = c.self.inside in
    let now = c.notify_all.new.desk in (
      stays_told i.journal i.outbox.put i.held i.inbox.taken i.waiting i.desk (Some now) i.places.items c.notify_all.new.places.items c.self.invariant.0
          (ap (λ (t : TakerEnd OrderIn). t.taken) c.notify_all.ensures.orders ∙ sym (ap (λ (o : Option Desk). taken_at o) c.in-Some.is))
          (subst (λ (l : List Entry). AreFed l now.trays.items c.notify_all.new.places.items) c.log.ensures c.notify_all.ensures.fed),
      c.self.invariant.1,
    )

pub returns-in-Some-clause-same : goal.returns-in-Some-clause-same
returns-in-Some-clause-same g c =
    let i = c.self.inside in
    let d = c.in-Some.desk in
    let now = c.notify_all.new.desk in
    let new : EngineState = record { config = i.journal.config; me = i.journal.node.me; node = i.journal.node; resend = i.resend; lacks_memory = i.lacks_memory; crash = i.journal.crash; outbox = i.outbox; held = i.held; inbox = i.inbox; waiting = i.waiting; desk = Some now; turns = i.journal.turns; ended = i.journal.ended } in
    let T : TakerEnd OrderIn → Type 0 = λ t. IsSameTaker d.orders t in
    let P : EngineState → Type 0 = λ e. IsSameEngine e new in
    subst P c.self.view_is (record {
      config = refl;
      me = refl;
      crash = refl;
      outbox = (refl, refl, refl, refl);
      inbox = taker_same i.inbox;
      desk = desk_used i.desk d now c.in-Some.is (subst T (sym c.notify_all.ensures.orders) (taker_same d.orders)) c.notify_all.ensures.trays;
    })
