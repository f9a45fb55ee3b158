use Rattle.std.proofs.Common.{subst, inr}
use Rattle.cast_node.specs.Kept.{Kept}
use Rattle.cast_resend.specs.Hopes.{NothingDue}
use Rattle.cast_engine.proofs.Resending.{due_of}
use Rattle.cast_engine.proofs.engine.Engine.send_next.Goals as goal

pub returns-in_default-clause-sent : goal.returns-in_default-clause-sent
returns-in_default-clause-sent g c = λ unsent. inr (inr (inr (subst (λ (n : Kept). NothingDue n c.next_due.new.self) c.node-2.ensures c.in_default.ensures.none)))

pub send-requires-clause-due : goal.send-requires-clause-due
send-requires-clause-due g c = due_of c.node-2.result.now c.self.inside.journal.node c.next_due.new.self _ _ c.node-2.ensures c.in-Some.ensures.some
