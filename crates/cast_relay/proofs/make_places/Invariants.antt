use Rattle.std.proofs.Common.{◌≡◌, ◌≤◌, length}
use Rattle.cast_relay.specs.Pairs.{by_sender}
use Rattle.cast_relay.proofs.make_places.Given as goal

abbrev pub invariant-loop-new : goal.invariant-loop-new
invariant-loop-new l =
    record {
      same : by_sender l.numbers.items ≡ by_sender l.fn.numbers.items;
      len : length l.numbers.items ≡ l._new;
      few : length l.numbers.items ≤ 256;
      more : length l.fn.numbers.items ≤ length l.numbers.items;
    }
