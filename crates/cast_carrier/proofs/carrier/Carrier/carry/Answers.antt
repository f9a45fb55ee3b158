use Rattle.std.proofs.Common.{sym, subst, ap, ◌∙◌, true}
use Rattle.cast_box.proofs.Same.{putters_same}
use Rattle.cast_box.specs.Ends.{AreSamePutters}
use Rattle.cast_carrier.specs.Fates.{fate_in, counted_in}
use Rattle.cast_carrier.specs.Carriers.{CarrierState, CarrierKeeps, CarrierPlans, CarriesOne, WaitsBy, HandsOver}
use Rattle.cast_carrier.proofs.Carrying.{carried, same_over}
use Rattle.cast_carrier.proofs.Copying.{planned_by, counted_back}
use Rattle.cast_carrier.proofs.carrier.Carrier.carry.Goals as goal

pub invariant_of-self : goal.invariant_of-self
invariant_of-self g c =
    let i = c.self.inside in
    let took = c.in-Some.ensures.taken in
    let keeps = c.self.invariant.0 in
    let plans = c.self.invariant.1 in
    let row = c.deref_mut.ensures.value in
    let fated = c.fate_of-fate in
    let by = fated.ensures.fate ∙ ap (λ s. fate_in i.faults s c.in-Some.parcel.frame) row in
    let count = counted_back i.ordinals.items fated.new.ordinals c.in-Some.parcel.frame i.ordinals.len i.ordinals.ok.0 (fated.ensures.counts ∙ ap (λ s. counted_in s c.in-Some.parcel.frame) row) in (
      carried i.room i.outbox.taken _ c.fate_of-fate.result i.inboxes.items c.take_over.new.inboxes.items i.delayed.items c.take_over.new.delayed.items took.0 c.in-Some.parcel keeps took.2 c.take_over.ensures.waits c.take_over.ensures.hands,
      planned_by i.room i.faults i.outbox.taken _ i.inboxes.items c.take_over.new.inboxes.items i.delayed.items c.take_over.new.delayed.items took.0 c.in-Some.parcel i.ordinals.items _ _ plans took.2
          by count c.take_over.ensures.waits c.take_over.ensures.hands,
    )

pub invariant_of-self-in-None : goal.invariant_of-self-in-None
invariant_of-self-in-None g c =
    let i = c.self.inside in
    subst (λ l. CarrierKeeps l i.inboxes.items i.delayed.items × CarrierPlans i.faults i.ordinals.items l i.inboxes.items i.delayed.items) (sym c.in-None.ensures.taken) c.self.invariant

pub returns-in-Some-clause-one : goal.returns-in-Some-clause-one
returns-in-Some-clause-one g c =
    let i = c.self.inside in
    let took = c.in-Some.ensures.taken in
    let x = c.in-Some.parcel in
    let over = c.take_over in
    let fate_is = c.fate_of-fate.ensures.fate ∙ ap (λ s. fate_in i.faults s x.frame) (c.deref_mut.ensures.value ∙ c.self.invariant.1.0) in
    let now : CarrierState = record { outbox = c.take.new.self; inboxes = over.new.inboxes.items; room = i.room; faults = i.faults; delayed = over.new.delayed.items } in
    subst (λ s. CarriesOne s now true) c.self.view_is (
      (took.0, x),
      took.2,
      (
        subst (λ t. WaitsBy t i.delayed.items x over.new.delayed.items) fate_is over.ensures.waits,
        subst (λ t. HandsOver i.room t i.inboxes.items i.delayed.items x over.new.inboxes.items) fate_is over.ensures.hands,
      ),
    )

pub returns-in-Some-clause-same : goal.returns-in-Some-clause-same
returns-in-Some-clause-same g c =
    let is = c.self.view_is in
    let same = c.take.ensures.same in
    let i = c.self.inside in
    let over = same_over i.room c.fate_of-fate.result i.inboxes.items c.take_over.new.inboxes.items i.delayed.items c.in-Some.parcel c.take_over.ensures.hands in
    ((same.0 ∙ ap (λ s. s.outbox.home) is, same.1 ∙ ap (λ s. s.outbox.size) is, same.2 ∙ ap (λ s. s.outbox.putters) is, same.3 ∙ ap (λ s. s.outbox.ended) is), subst (λ l. AreSamePutters l c.take_over.new.inboxes.items) (ap (λ s. s.inboxes) is) over, ap (λ s. s.faults) is, ap (λ s. s.room) is)

pub returns-in-None-clause-same : goal.returns-in-None-clause-same
returns-in-None-clause-same g c =
    let is = c.self.view_is in
    let same = c.take.ensures.same in
    let all = c.self.inside.inboxes.items in
    ((same.0 ∙ ap (λ s. s.outbox.home) is, same.1 ∙ ap (λ s. s.outbox.size) is, same.2 ∙ ap (λ s. s.outbox.putters) is, same.3 ∙ ap (λ s. s.outbox.ended) is), subst (λ l. AreSamePutters l all) (ap (λ s. s.inboxes) is) (putters_same all), ap (λ s. s.faults) is, ap (λ s. s.room) is)
