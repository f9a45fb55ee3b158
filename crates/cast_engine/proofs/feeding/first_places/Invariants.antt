use Rattle.std.proofs.Common.{◌≡◌}
use Rattle.std.specs.Prelude.{replicate}
use Rattle.cast_engine.specs.Feeding.{first_place}
use Rattle.cast_engine.proofs.feeding.first_places.Given as goal

abbrev pub invariant-loop-client : goal.invariant-loop-client
invariant-loop-client l = l.places.items ≡ replicate l._client first_place
