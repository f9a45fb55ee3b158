use Rattle.std.proofs.Common.{◌∙◌, ap, refl, sym, subst, arith, Option, Some}
use Rattle.cast_journal.specs.declared.parcel.Parcel.{Parcel}
use Rattle.cast_journal.specs.Journals.{JournalState}
use Rattle.cast_journal.proofs.Running.{waits_mine}
use Rattle.std.specs.Prelude.{IsFalse}
use Rattle.cast_model.specs.Steps.{Arrived}
use Rattle.cast_node.specs.Kept.{Kept}
use Rattle.cast_node.specs.Turns.{kept_after}
use Rattle.cast_resend.specs.Keeps.{OwesLess}
use Rattle.cast_engine.specs.Engines.{EngineState, EngineStays, IsSameEngine}
use Rattle.cast_engine.proofs.Again.{desk_same}
use Rattle.cast_engine.proofs.Staying.{stays_same, stays_halt, stays_full, stays_arrived, still_runs, same_step}
use Rattle.cast_engine.proofs.Resending.{keeps_same, keeps_halt, keeps_arrived}
use Rattle.cast_engine.proofs.engine.Engine.log_waiting.Goals as goal

pub invariant_of-self : goal.invariant_of-self
invariant_of-self c =
    let i = c.self.inside in
    (stays_halt i.journal c.may_log.new.self i.outbox.put i.held i.inbox.taken i.waiting i.desk i.places.items c.self.invariant.0 (c.if-not-may_log.ensures.halts refl) c.if-not-may_log.ensures.late, keeps_halt i.journal c.may_log.new.self i.resend (c.if-not-may_log.ensures.halts refl) c.self.invariant.1)

pub invariant_of-self-then-parcel : goal.invariant_of-self-then-parcel
invariant_of-self-then-parcel c =
    let i = c.self.inside in
    let j = c.may_log.new.self in (
      stays_full j c.end_by_last_stamp.new.self i.outbox.put i.held i.inbox.taken i.waiting i.desk i.places.items
          (stays_same i.journal j i.outbox.put i.held i.inbox.taken i.waiting i.desk i.places.items c.self.invariant.0 (c.if-not-may_log.ensures.may refl).0) (c.in-Some.parcel, c.in-Some.is, omega (arith, c.if-parcel.true)) c.end_by_last_stamp.ensures,
      keeps_same j c.end_by_last_stamp.new.self i.resend (ap (λ (z : JournalState). z.node) c.end_by_last_stamp.ensures) (keeps_same i.journal j i.resend (ap (λ (z : JournalState). z.node) (c.if-not-may_log.ensures.may refl).0) c.self.invariant.1),
    )

pub arrive-requires-clause-to : goal.arrive-requires-clause-to
arrive-requires-clause-to c =
    let i = c.self.inside in
    let P : Option Parcel → Type 0 = λ w. EngineStays i.journal i.outbox.put i.held i.inbox.taken w i.desk i.places.items in
    let k : P (Some c.in-Some.parcel) = subst P c.in-Some.is c.self.invariant.0 in
    waits_mine c.in-Some.parcel k.keeps ∙ ap (λ (j : JournalState). j.node.me) (sym (c.if-not-may_log.ensures.may refl).0)

pub invariant_of-self-2 : goal.invariant_of-self-2
invariant_of-self-2 c =
    let i = c.self.inside in
    let j = c.may_log.new.self in
    let may = c.if-not-may_log.ensures.may refl in
    let P : Option Parcel → Type 0 = λ w. EngineStays j i.outbox.put i.held i.inbox.taken w i.desk i.places.items in
    let k : P (Some c.in-Some.parcel) = subst P c.in-Some.is (stays_same i.journal j i.outbox.put i.held i.inbox.taken i.waiting i.desk i.places.items c.self.invariant.0 may.0) in (
      subst (λ (w : Option Parcel). EngineStays c.arrive.new.self i.outbox.put i.held i.inbox.taken w i.desk i.places.items) (sym c.set.ensures)
          (stays_arrived j c.arrive.new.self i.outbox.put i.held i.inbox.taken i.desk i.places.items c.in-Some.parcel k (still_runs may) c.in-Ok.ensures.ended c.in-Ok.ensures.ok),
      keeps_arrived j c.arrive.new.self c.in-Some.parcel c.brings_news-has_news.result i.resend c.note_news.new.resend c.in-Ok.ensures.ok (subst (λ (n : Kept). IsFalse c.brings_news-has_news.result → OwesLess n (kept_after n (Arrived c.in-Some.parcel.frame))) c.node.ensures c.brings_news-has_news.ensures) c.note_news.ensures (keeps_same i.journal j i.resend (ap (λ (z : JournalState). z.node) (c.if-not-may_log.ensures.may refl).0) c.self.invariant.1),
    )

pub returns-clause-same : goal.returns-clause-same
returns-clause-same c =
    let i = c.self.inside in
    let j = c.may_log.new.self in
    let k = c.arrive.new.self in
    let same = (c.if-not-may_log.ensures.may refl).0 in
    let s = same_step j k i.outbox.put i.held i.inbox.taken i.waiting i.desk i.places.items (stays_same i.journal j i.outbox.put i.held i.inbox.taken i.waiting i.desk i.places.items c.self.invariant.0 same) _ _ _ c.in-Ok.ensures.ok in
    let new : EngineState = record { config = k.config; me = k.node.me; node = k.node; resend = c.note_news.new.resend; lacks_memory = i.lacks_memory; crash = k.crash; outbox = i.outbox; held = i.held; inbox = i.inbox; waiting = c.set.new.waiting; desk = i.desk; turns = k.turns; ended = k.ended } in
    let P : EngineState → Type 0 = λ e. IsSameEngine e new in
    subst P c.self.view_is (record {
      config = s.0 ∙ ap (λ (z : JournalState). z.config) same;
      me = s.1 ∙ ap (λ (z : JournalState). z.node.me) same;
      crash = s.2 ∙ ap (λ (z : JournalState). z.crash) same;
      outbox = (refl, refl, refl, refl);
      inbox = (refl, refl, refl, refl);
      desk = desk_same i.desk i.desk refl;
    })
