use Rattle.std.proofs.Common.{sym, subst}
use Rattle.cast_resend.specs.Hopes.{IsDueTo}
use Rattle.cast_resend.specs.Keeps.{HasPlace}
use Rattle.cast_engine.specs.Engines.{EngineState}
use Rattle.cast_engine.proofs.Resending.{keeps_noted}
use Rattle.cast_engine.proofs.engine.Engine.note.Goals as goal

pub invariant_of-self : goal.invariant_of-self
invariant_of-self c =
    let i = c.self.inside in
    let old : EngineState → Type 0 = λ e. IsDueTo e.node e.resend c.args.to c.args.slot × HasPlace e.resend in
    let asks = subst old (sym c.self.view_is) (c.requires.due, c.requires.place) in
    (c.self.invariant.0, keeps_noted i.journal i.outbox.put i.held i.inbox.taken i.waiting i.desk i.places.items c.self.invariant.0 i.resend c.note.new.self c.args.to c.args.slot c.note.ensures c.self.invariant.1 asks.0 asks.1)

pub invariant_of-self-else-note : goal.invariant_of-self-else-note
invariant_of-self-else-note c =
    let i = c.self.inside in
    let old : EngineState → Type 0 = λ e. IsDueTo e.node e.resend c.args.to c.args.slot × HasPlace e.resend in
    let asks = subst old (sym c.self.view_is) (c.requires.due, c.requires.place) in
    (c.self.invariant.0, keeps_noted i.journal i.outbox.put i.held i.inbox.taken i.waiting i.desk i.places.items c.self.invariant.0 i.resend c.note.new.self c.args.to c.args.slot c.note.ensures c.self.invariant.1 asks.0 asks.1)
