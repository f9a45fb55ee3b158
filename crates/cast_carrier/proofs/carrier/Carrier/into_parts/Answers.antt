use Rattle.std.proofs.Common.{subst}
use Rattle.cast_carrier.specs.Copies.{IsByPlan}
use Rattle.cast_carrier.specs.Carriers.{CarrierState, Brings}
use Rattle.cast_carrier.proofs.Copying.{by_plan}
use Rattle.cast_carrier.proofs.carrier.Carrier.into_parts.Goals as goal

pub returns-clause-kept : goal.returns-clause-kept
returns-clause-kept c = let P : CarrierState → Type 0 = λ s. Brings s.outbox.taken s.inboxes in subst P c.self.view_is c.self.invariant.0.0

pub returns-clause-planned : goal.returns-clause-planned
returns-clause-planned c =
    let i = c.self.inside in
    let P : CarrierState → Type 0 = λ s. IsByPlan s.faults s.outbox.taken s.inboxes in
    subst P c.self.view_is (by_plan i.faults i.ordinals.items i.outbox.taken i.inboxes.items i.delayed.items c.self.invariant.1)
