use Rattle.std.proofs.Common.{◌∙◌, sym}
use Rattle.cast_engine.proofs.Staying.{stays_flushed}
use Rattle.cast_engine.proofs.engine.Engine.flush.Goals as goal

pub invariant_of-self-2 : goal.invariant_of-self-2
invariant_of-self-2 g c =
    let i = c.self.inside in
    (stays_flushed i.journal i.outbox.put _ i.held _ i.inbox.taken i.waiting _ i.places.items c.in-Some.parcel c.self.invariant.0 (sym c.take.ensures.value ∙ c.in-Some.is) c.hand.ensures.handed, c.self.invariant.1)
