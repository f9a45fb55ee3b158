use Rattle.std.proofs.Common.{sym, subst}
use Rattle.cast_engine.specs.Engines.{IsSameEngine, DoesFew, HasSameBoxes, CanSendNothing}
use Rattle.cast_engine.proofs.Again.{engine_again}
use Rattle.cast_engine.proofs.Few.{few_same, few_again, few_worked, same_again}
use Rattle.cast_engine.proofs.engine.Engine.turn.Goals as goal

pub returns-then-not-count_turn-clause-same : goal.returns-then-not-count_turn-clause-same
returns-then-not-count_turn-clause-same g c = engine_again c.args.self.now c.may_go_on.new.self c.count_turn.new.self c.may_go_on.ensures.same c.count_turn.ensures.same

pub returns-then-may_stop-clause-same : goal.returns-then-may_stop-clause-same
returns-then-may_stop-clause-same g c =
    engine_again c.args.self.now c.tell_gate.new.self c.stop.new.self
    (subst (IsSameEngine c.args.self.now) (sym c.tell_gate.ensures) (engine_again c.args.self.now c.count_turn.new.self c.work-moved.new.self (engine_again c.args.self.now c.may_go_on.new.self c.count_turn.new.self c.may_go_on.ensures.same c.count_turn.ensures.same) c.work-moved.ensures.same))
    c.stop.ensures.same

pub returns-then-moved-clause-same : goal.returns-then-moved-clause-same
returns-then-moved-clause-same g c =
    subst (IsSameEngine c.args.self.now) (sym c.tell_gate.ensures) (engine_again c.args.self.now c.count_turn.new.self c.work-moved.new.self (engine_again c.args.self.now c.may_go_on.new.self c.count_turn.new.self c.may_go_on.ensures.same c.count_turn.ensures.same) c.work-moved.ensures.same)

pub returns-else-moved-clause-same : goal.returns-else-moved-clause-same
returns-else-moved-clause-same g c =
    subst (IsSameEngine c.args.self.now) (sym c.tell_gate.ensures) (engine_again c.args.self.now c.count_turn.new.self c.work-moved.new.self (engine_again c.args.self.now c.may_go_on.new.self c.count_turn.new.self c.may_go_on.ensures.same c.count_turn.ensures.same) c.work-moved.ensures.same)

pub returns-then-not-count_turn-clause-few : goal.returns-then-not-count_turn-clause-few
returns-then-not-count_turn-clause-few g c = few_same 1 1 3 1 c.args.self.now c.count_turn.new.self (same_again c.args.self.now c.may_go_on.new.self c.count_turn.new.self c.may_go_on.ensures.boxes c.count_turn.ensures.boxes)

pub returns-then-may_stop-clause-few : goal.returns-then-may_stop-clause-few
returns-then-may_stop-clause-few g c =
    few_again 1 1 3 1 0 0 0 0 c.args.self.now c.tell_gate.new.self c.stop.new.self
    (subst (DoesFew 1 1 3 1 c.args.self.now) (sym c.tell_gate.ensures) (few_worked c.args.self.now c.may_go_on.new.self c.count_turn.new.self c.work-moved.new.self c.may_go_on.ensures.boxes c.count_turn.ensures.boxes c.work-moved.ensures.few))
    (few_same 0 0 0 0 c.tell_gate.new.self c.stop.new.self c.stop.ensures.boxes)

pub returns-then-moved-clause-few : goal.returns-then-moved-clause-few
returns-then-moved-clause-few g c =
    subst (DoesFew 1 1 3 1 c.args.self.now) (sym c.tell_gate.ensures) (few_worked c.args.self.now c.may_go_on.new.self c.count_turn.new.self c.work-moved.new.self c.may_go_on.ensures.boxes c.count_turn.ensures.boxes c.work-moved.ensures.few)

pub returns-else-moved-clause-few : goal.returns-else-moved-clause-few
returns-else-moved-clause-few g c =
    subst (DoesFew 1 1 3 1 c.args.self.now) (sym c.tell_gate.ensures) (few_worked c.args.self.now c.may_go_on.new.self c.count_turn.new.self c.work-moved.new.self c.may_go_on.ensures.boxes c.count_turn.ensures.boxes c.work-moved.ensures.few)

pub returns-else-moved-clause-idle : goal.returns-else-moved-clause-idle
returns-else-moved-clause-idle g c = (
  subst (HasSameBoxes c.args.self.now) (sym c.tell_gate.ensures) (same_again c.args.self.now c.count_turn.new.self c.work-moved.new.self (same_again c.args.self.now c.may_go_on.new.self c.count_turn.new.self c.may_go_on.ensures.boxes c.count_turn.ensures.boxes) (c.work-moved.ensures.idle c.if-moved.false)),
  subst CanSendNothing (sym c.tell_gate.ensures) (c.work-moved.ensures.sent c.if-moved.false),
)
