use Rattle.std.proofs.Common.{◌≡◌, ℕ, slice_get, Some}
use Rattle.cast_resend.specs.declared.due.Due.{Due}
use Rattle.cast_resend.proofs.Laws.{IsFresh}
use Rattle.cast_resend.proofs.resend.Resend.new.Given as goal

abbrev pub invariant-loop-node : goal.invariant-loop-node
invariant-loop-node l = (q : ℕ) (d : Due) → slice_get l.due.items q ≡ Some d → IsFresh d
