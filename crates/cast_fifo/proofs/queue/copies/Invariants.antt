use Rattle.std.proofs.Common.{◌≡◌, ◌+◌, ◌++◌, ◌∷◌, drop, length}
use Rattle.cast_model.specs.History.{numbered}
use Rattle.cast_fifo.specs.HeldBack.{run_from}
use Rattle.cast_fifo.specs.Windows.{entries_of}
use Rattle.cast_fifo.proofs.queue.copies.Given as goal

abbrev pub invariant-loop-place : goal.invariant-loop-place
invariant-loop-place l =
    let turn = l.next + l.place in
    record {
      messages : l.messages.items ++ numbered l.sender turn (run_from turn (entries_of turn (drop l.place l.ring.items) l.far.entries)) ≡ numbered l.sender l.next (l.first ∷ run_from (l.next + 1) (entries_of (l.next + 1) (drop 1 l.ring.items) l.far.entries));
      count : length l.messages.items ≡ l.place;
    }

abbrev pub invariant-loop-number : goal.invariant-loop-number
invariant-loop-number l =
    let turn = l.next + length l.messages.items in
    l.messages.items ++ numbered l.sender turn (run_from turn l.number-iterator) ≡ numbered l.sender l.next (l.first ∷ run_from (l.next + 1) (entries_of (l.next + 1) (drop 1 l.ring.items) l.far.entries))
