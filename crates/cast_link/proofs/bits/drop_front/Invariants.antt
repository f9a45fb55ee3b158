use Rattle.std.proofs.Common.{◌≡◌, drop}
use Rattle.std.specs.VecDeque.{deque_capacity}
use Rattle.cast_link.proofs.bits.drop_front.Given as goal

abbrev pub invariant-loop-word : goal.invariant-loop-word
invariant-loop-word l = (l.words.items ≡ drop l._word l.fn.words.items) × (deque_capacity l.words ≡ deque_capacity l.fn.words)
