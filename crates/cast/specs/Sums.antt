-- Sums do not depend on the order between senders.
use Rattle.std.specs.Prelude.{◌≡◌, ℕ, List}
use Rattle.std.specs.List.{sum_by}
use Rattle.cast_message.specs.declared.message.Message.{Message}
use Rattle.cast_merge.specs.Told.{of_sender}

-- if two lists have the same messages of each sender, in order, their sums are equal, whatever each message counts
abbrev pub SumsAgree : Type 0
SumsAgree =
    (value : Message → ℕ) (xs ys : List Message) → ((s : ℕ) → of_sender s xs ≡ of_sender s ys)
    → sum_by value xs ≡ sum_by value ys
