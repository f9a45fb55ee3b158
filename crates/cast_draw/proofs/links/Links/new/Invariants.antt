-- Nothing is held and nothing given, for each node so far.
use Rattle.std.proofs.Common.{◌≡◌, [], replicate}
use Rattle.std.specs.FinSet as set
use Rattle.cast_draw.proofs.links.Links.new.Given as goal

abbrev pub invariant-loop-node : goal.invariant-loop-node
invariant-loop-node l =
    record {
      held : l.held.items ≡ replicate l._node set.empty;
      given : l.given.items ≡ replicate l._node [];
    }
