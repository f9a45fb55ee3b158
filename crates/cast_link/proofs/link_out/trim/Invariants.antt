use Rattle.std.proofs.Common.{◌≡◌, ◌+◌, ◌≤◌, length}
use Rattle.cast_link.specs.Links.{owed_map}
use Rattle.cast_link.proofs.link_out.trim.Given as goal

abbrev pub invariant-loop-places : goal.invariant-loop-places
invariant-loop-places g l =
    record {
      later : l.fn.base ≤ l.base;
      given : l.base + length l.places.items ≡ l.fn.base + length l.fn.places.items;
      same : owed_map l.base l.places.items ≡ owed_map l.fn.base l.fn.places.items;
    }

abbrev pub decreases-loop-places : goal.decreases-loop-places
decreases-loop-places g l = length l.places.items
