use Rattle.std.proofs.Common.{◌≡◌, ◌+◌, ◌++◌, length, replicate, None}
use Rattle.std.specs.VecDeque.{deque_capacity, deque_len}
use Rattle.cast_fifo.proofs.ring.add_places.Given as goal

abbrev pub invariant-loop-place : goal.invariant-loop-place
invariant-loop-place l =
    record {
      places : l.ring.items ≡ l.fn.ring.items ++ replicate l._place None;
      len : deque_len l.ring ≡ length l.fn.ring.items + l._place;
      room : deque_capacity l.ring ≡ deque_capacity l.fn.ring;
    }
