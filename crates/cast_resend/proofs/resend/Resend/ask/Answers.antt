use Rattle.std.proofs.Common.{sym, subst}
use Rattle.cast_resend.specs.Keeps.{Keeps}
use Rattle.cast_resend.proofs.Moving.{keeps_passed, keeps_given_up}
use Rattle.cast_resend.proofs.resend.Resend.ask.Goals as goal

pub returns-in_default-clause-keeps : goal.returns-in_default-clause-keeps
returns-in_default-clause-keeps c = subst (Keeps c.args.node.now) (sym c.pass_over.ensures) (keeps_passed c.args.node.now c.least_due.new.self c.args.to c.least_due.ensures.keeps c.in_default.ensures.none)

pub returns-then-has_ended-clause-keeps : goal.returns-then-has_ended-clause-keeps
returns-then-has_ended-clause-keeps c = subst (Keeps c.args.node.now) (sym c.give_up.ensures) (keeps_given_up c.args.node.now c.least_due.new.self c.args.to c.least_due.ensures.keeps)
