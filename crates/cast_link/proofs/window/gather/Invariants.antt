use Rattle.std.proofs.Common.{◌≡◌, ◌≤◌, ◌<◌, ℕ, length}
use Rattle.std.specs.VecDeque.{deque_capacity}
use Rattle.cast_link.specs.Taken.{is_marked}
use Rattle.cast_link.proofs.window.gather.Given as goal

abbrev pub invariant-loop-first : goal.invariant-loop-first
invariant-loop-first l =
    record {
      short : length l.words.items ≤ 4097;
      same : (slot : ℕ) → l.base ≤ slot → is_marked l.base l.words.items l.far.keys slot ≡ is_marked l.base l.fn.words.items l.fn.far.keys slot;
      room : 0 < length l.far.keys → 4097 ≤ deque_capacity l.words;
    }

abbrev pub decreases-loop-first : goal.decreases-loop-first
decreases-loop-first l = length l.far.keys
