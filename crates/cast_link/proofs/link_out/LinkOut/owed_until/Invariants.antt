-- The slots so far are owed.
use Rattle.std.proofs.Common.{◌≡◌, ℕ, ◌<◌, ◌≤◌, true}
use Rattle.std.specs.FinMap as map
use Rattle.cast_link.proofs.link_out.LinkOut.owed_until.Given as goal

abbrev pub invariant-loop-slot : goal.invariant-loop-slot
invariant-loop-slot g l = (other : ℕ) → l.from ≤ other → other < l.slot → map.contains_key l.fn.self.link.owed other ≡ true
