-- The part of the piece before the rest was read, and no line of it offended.
use Rattle.std.proofs.Common.{◌≡◌, ◌+◌, ◌<◌, ◌≤◌, ℕ, true, List, length}
use Rattle.cast_judge.specs.Judged.{Stands, is_reading, HadBegun}
use Rattle.cast_judge.proofs.PieceLemmas.{Reads}
use Rattle.cast_judge.proofs.judging.Judging.read.Given as goal

abbrev pub invariant-loop-after : goal.invariant-loop-after
invariant-loop-after l = record {
  reading : is_reading l.self ≡ true;
  fed : l.self.fed ≡ l.fn.self.fed;
  room : l.self.lines + length l.rest ≤ l.self.fed;
  within : length l.rest ≤ length l.piece;
  begun : 0 < length l.self.tail.items → HadBegun l.fn.self l.self;
  stands : (text : List ℕ) → Stands text l.fn.self → Reads text l.piece l.rest l.self;
}

abbrev pub decreases-loop-after : goal.decreases-loop-after
decreases-loop-after l = length l.rest
