use Rattle.std.proofs.Common.{◌≤◌, ◌<◌, ℕ}
use Rattle.std.specs.Bool.{IsTrue}
use Rattle.cast_link.specs.Taken.{is_marked}
use Rattle.cast_link.proofs.window.first_free.Given as goal

abbrev pub invariant-loop-slot : goal.invariant-loop-slot
invariant-loop-slot l = (slot : ℕ) → l.from ≤ slot → slot < l.slot-counter → IsTrue (is_marked l.base l.words.items l.far.keys slot)
