use Rattle.std.proofs.Common.{sym, subst, ◌∙◌}
use Rattle.cast_engine.specs.Engines.{IsSameEngine, DoesFew, CanSendNothing}
use Rattle.cast_engine.proofs.Again.{engine_again}
use Rattle.cast_engine.proofs.Few.{few_again}
use Rattle.cast_engine.proofs.engine.Engine.work.Goals as goal

pub returns-then-sent-clause-same : goal.returns-then-sent-clause-same
returns-then-sent-clause-same g c =
    let ordered = engine_again c.args.self.now c.exchange-exchanged.new.self c.take_order-ordered.new.self c.exchange-exchanged.ensures.same c.take_order-ordered.ensures.same in
    let sent = engine_again c.args.self.now c.take_order-ordered.new.self c.send_next-sent.new.self ordered c.send_next-sent.ensures.same in
    subst (IsSameEngine c.args.self.now) (sym c.note_served.ensures) (engine_again c.args.self.now c.send_next-sent.new.self c.notify-told.new.self sent c.notify-told.ensures.same)

pub returns-else-sent-clause-same : goal.returns-else-sent-clause-same
returns-else-sent-clause-same g c =
    let ordered = engine_again c.args.self.now c.exchange-exchanged.new.self c.take_order-ordered.new.self c.exchange-exchanged.ensures.same c.take_order-ordered.ensures.same in
    let sent = engine_again c.args.self.now c.take_order-ordered.new.self c.send_next-sent.new.self ordered c.send_next-sent.ensures.same in
    subst (IsSameEngine c.args.self.now) (sym c.note_served.ensures) (engine_again c.args.self.now c.send_next-sent.new.self c.notify-told.new.self sent c.notify-told.ensures.same)

pub returns-then-sent-clause-few : goal.returns-then-sent-clause-few
returns-then-sent-clause-few g c =
    let ordered = few_again 1 0 2 0 0 1 0 0 c.args.self.now c.exchange-exchanged.new.self c.take_order-ordered.new.self c.exchange-exchanged.ensures.few c.take_order-ordered.ensures.few in
    let sent = few_again 1 1 2 0 0 0 1 0 c.args.self.now c.take_order-ordered.new.self c.send_next-sent.new.self ordered c.send_next-sent.ensures.few in
    subst (DoesFew 1 1 3 1 c.args.self.now) (sym c.note_served.ensures) (few_again 1 1 3 0 0 0 0 1 c.args.self.now c.send_next-sent.new.self c.notify-told.new.self sent c.notify-told.ensures.few)

pub returns-else-sent-clause-few : goal.returns-else-sent-clause-few
returns-else-sent-clause-few g c =
    let ordered = few_again 1 0 2 0 0 1 0 0 c.args.self.now c.exchange-exchanged.new.self c.take_order-ordered.new.self c.exchange-exchanged.ensures.few c.take_order-ordered.ensures.few in
    let sent = few_again 1 1 2 0 0 0 1 0 c.args.self.now c.take_order-ordered.new.self c.send_next-sent.new.self ordered c.send_next-sent.ensures.few in
    subst (DoesFew 1 1 3 1 c.args.self.now) (sym c.note_served.ensures) (few_again 1 1 3 0 0 0 0 1 c.args.self.now c.send_next-sent.new.self c.notify-told.new.self sent c.notify-told.ensures.few)

pub returns-else-sent-clause-sent : goal.returns-else-sent-clause-sent
returns-else-sent-clause-sent g c = λ told. subst CanSendNothing (sym (c.note_served.ensures ∙ c.notify-told.ensures.rest)) (c.send_next-sent.ensures.sent c.if-sent.false.2)
