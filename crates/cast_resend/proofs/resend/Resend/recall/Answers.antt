use Rattle.std.proofs.Common.{◌∙◌, sym}
use Rattle.cast_resend.proofs.Sending.{keeps_made, recalled_made, recalled_not_owed}
use Rattle.cast_resend.proofs.resend.Resend.recall.Goals as goal

pub returns-then-is_owed-clause-keeps : goal.returns-then-is_owed-clause-keeps
returns-then-is_owed-clause-keeps c = keeps_made c.args.node.now c.in-Some.sent.to c.in-Some.sent.slot c.args.self.now c.make_due.new.self c.make_due.ensures c.requires

pub returns-then-is_owed-clause-recalled : goal.returns-then-is_owed-clause-recalled
returns-then-is_owed-clause-recalled c = recalled_made c.args.node.now c.in-Some.sent.to c.in-Some.sent.slot c.args.self.now c.make_due.new.self c.make_due.ensures c.requires c.in-Some.ensures.some

pub returns-else-is_owed-clause-recalled : goal.returns-else-is_owed-clause-recalled
returns-else-is_owed-clause-recalled c = recalled_not_owed c.args.node.now c.args.self.now c.in-Some.sent.to c.in-Some.sent.slot c.in-Some.ensures.some (sym c.is_owed.ensures ∙ c.if-is_owed.false)
