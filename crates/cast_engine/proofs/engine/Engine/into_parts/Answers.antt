use Rattle.std.proofs.Common.{refl, subst}
use Rattle.cast_engine.proofs.Staying.{leaves}
use Rattle.cast_engine.proofs.EndedLogs.{leaves_tell, leaves_told}
use Rattle.cast_engine.specs.Engines.{EngineState, Leaves}
use Rattle.cast_engine.proofs.engine.Engine.into_parts.Goals as goal

pub returns-clause-leaves : goal.returns-clause-leaves
returns-clause-leaves c =
    let i = c.self.inside in
    let parts = c.into_parts-log in
    let e : EngineState = record { config = i.journal.config; me = i.journal.node.me; node = i.journal.node; resend = i.resend; lacks_memory = i.lacks_memory; crash = i.journal.crash; outbox = i.outbox; held = i.held; inbox = i.inbox; waiting = i.waiting; desk = i.desk; turns = i.journal.turns; ended = i.journal.ended } in
    let P : EngineState → Type 0 = λ s. Leaves s parts.result.0 parts.result.1 parts.result.2 in
    subst P c.self.view_is
    (leaves i.journal i.outbox.put i.held i.inbox.taken i.waiting i.desk i.places.items e c.self.invariant.0 refl refl refl refl refl refl refl refl refl _ _ _ parts.ensures)

pub returns-clause-tells : goal.returns-clause-tells
returns-clause-tells c = leaves_tell c.args.self _ _ _ (returns-clause-leaves c)

pub returns-clause-told : goal.returns-clause-told
returns-clause-told c = leaves_told c.args.self _ _ _ (returns-clause-leaves c)
