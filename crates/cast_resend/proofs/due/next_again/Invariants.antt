use Rattle.std.proofs.Common.{◌+◌, ◌≤◌, length}
use Rattle.cast_resend.specs.Dues.{Drops}
use Rattle.cast_resend.proofs.due.next_again.Given as goal

abbrev pub invariant-loop-gone : goal.invariant-loop-gone
invariant-loop-gone l = Drops l.node l.to l.fn.again.items l.again.items × (length l.again.items + l.gone ≤ length l.fn.again.items)
