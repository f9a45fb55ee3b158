use Rattle.std.proofs.Common.{sym, subst, arith}
use Rattle.cast_resend.specs.Keeps.{Keeps, HasPlace}
use Rattle.cast_resend.proofs.Sending.{keeps_cleared, keeps_turned, has_place}
use Rattle.cast_resend.proofs.resend.Resend.next_turn.Goals as goal
use Rattle.cast_resend.proofs.resend.Resend.next_turn.Goals.{then-next-len, else-next-len}

pub returns-clause-keeps : goal.returns-clause-keeps
returns-clause-keeps c = subst (Keeps c.args.node.now) (sym c.put.ensures.same) (keeps_cleared c.args.node.now c.recall.new.self c.put.new.self.sent c.put.ensures.sent c.recall.ensures.recalled c.recall.ensures.keeps)

pub returns-clause-place : goal.returns-clause-place
returns-clause-place c =
    subst HasPlace (sym c.put.ensures.same) (has_place c.args.node.now c.recall.new.self c.put.new.self.sent c.put.ensures.sent c.recall.ensures.keeps)

pub recall-requires : goal.recall-requires
recall-requires c = keeps_turned c.args.node.now c.args.self.now c.if-next-len.self (elim c.if-next-len.branch [
  | then-next-len w ↦ omega (arith, w.self-is, w.if-next-len.true, c.len.ensures, c.args.self.now.sent.ok)
  | else-next-len w ↦ omega (arith, w.self-is, c.requires.place)
]) c.requires
