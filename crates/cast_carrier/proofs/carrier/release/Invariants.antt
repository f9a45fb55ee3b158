use Rattle.std.proofs.Common.{◌≡◌, ◌-◌, length}
use Rattle.std.specs.List.{filter}
use Rattle.cast_carrier.specs.Carriers.{is_early}
use Rattle.cast_carrier.proofs.Sifting.{sifted, HandedSo}
use Rattle.cast_carrier.proofs.carrier.release.Given as goal

abbrev pub decreases-loop-place : goal.decreases-loop-place
decreases-loop-place g l = length l.delayed.items - l.place

abbrev pub invariant-loop-place : goal.invariant-loop-place
invariant-loop-place g l =
    (sifted is_early l.place l.delayed.items ≡ filter is_early l.fn.delayed.items)
    × HandedSo l.fn.room l.fn.inboxes.items l.fn.delayed.items l.place l.inboxes.items l.delayed.items
