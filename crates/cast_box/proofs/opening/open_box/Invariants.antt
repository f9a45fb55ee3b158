use Rattle.std.proofs.Common.{◌≡◌, ℕ, length, [], slice_get, Some}
use Rattle.cast_box.specs.Ends.{PutterEnd}
use Rattle.cast_box.proofs.opening.open_box.Given as goal

abbrev pub invariant-loop-number : goal.invariant-loop-number
invariant-loop-number g l =
    (l.opening.made ≡ l.number)
    × (l.opening.size ≡ l.fn.size)
    × (l.opening.putters ≡ l.fn.putters)
    × (length l.all.items ≡ l.number)
    × ((a : ℕ) (p : PutterEnd g.row.T.Denot) → slice_get l.all.items a ≡ Some p → p ≡ record { home = l.opening.home; size = l.opening.size; putters = l.opening.putters; number = a; put = [] })
