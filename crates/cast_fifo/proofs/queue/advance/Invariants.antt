use Rattle.std.proofs.Common.{◌≡◌, ◌+◌, ◌≤◌, ◌++◌, length, vec_len}
use Rattle.std.specs.Prelude.{vec_capacity}
use Rattle.std.specs.VecDeque.{deque_capacity}
use Rattle.cast_fifo.specs.HeldBack.{run_from, advanced}
use Rattle.cast_fifo.specs.Windows.{entries_of, IsWindow}
use Rattle.cast_fifo.proofs.Entries.{seen}
use Rattle.cast_fifo.proofs.queue.advance.Given as goal

abbrev pub invariant-loop-item : goal.invariant-loop-item
invariant-loop-item l =
    let run = run_from l.next (entries_of l.next l.ring.items l.far.entries) in
    record {
      items : l.items.items ++ run ≡ l.fn.items.items ++ run_from l.fn.next (entries_of l.fn.next l.fn.ring.items l.fn.far.entries);
      after : advanced (seen l.next l.closed l.ring.items l.far.entries) ≡ advanced (seen l.fn.next l.fn.closed l.fn.ring.items l.fn.far.entries);
      room : vec_len l.items + length run ≤ vec_capacity l.items;
      window : IsWindow l.next l.ring.items l.far.entries (deque_capacity l.ring);
    }

abbrev pub decreases-loop-item : goal.decreases-loop-item
decreases-loop-item l = length (run_from l.next (entries_of l.next l.ring.items l.far.entries))
