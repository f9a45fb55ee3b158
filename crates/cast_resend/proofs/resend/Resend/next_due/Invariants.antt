use Rattle.std.specs.FinSet as set
use Rattle.cast_resend.specs.Keeps.{Keeps, KeepsSent}
use Rattle.cast_resend.proofs.resend.Resend.next_due.Given as goal

abbrev pub invariant-loop-to : goal.invariant-loop-to
invariant-loop-to l = Keeps l.node l.self × KeepsSent l.fn.self l.self

abbrev pub decreases-loop-to : goal.decreases-loop-to
decreases-loop-to l = set.len l.self.hopeful
