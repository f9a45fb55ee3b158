use Rattle.std.proofs.Common.{◌≡◌, ◌≤◌, ℕ, length, slice_index}
use Rattle.std.specs.VecDeque.{deque_capacity}
use Rattle.cast_link.proofs.window.add_words.Given as goal

abbrev pub invariant-loop-word : goal.invariant-loop-word
invariant-loop-word l =
    record {
      len : l._word ≡ length l.words.items;
      short : length l.words.items ≤ 4097;
      room : deque_capacity l.words ≡ deque_capacity l.fn.words;
      same : (k : ℕ) → slice_index l.words.items k ≡ slice_index l.fn.words.items k;
    }
