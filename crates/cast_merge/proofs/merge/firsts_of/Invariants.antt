-- The firsts of the groups so far.
use Rattle.std.proofs.Common.{◌≡◌, ℕ, ◌+◌, ◌*◌, ◌<◌, length}
use Rattle.std.specs.Prelude.{slice_index_or}
use Rattle.cast_merge.specs.declared.merge.First.{First}
use Rattle.cast_merge.specs.Fronts.{FirstIn}
use Rattle.cast_merge.proofs.merge.firsts_of.Given as goal

abbrev pub invariant-loop-group : goal.invariant-loop-group
invariant-loop-group l = record {
  count : length l.firsts.items ≡ l.group;
  each : (g : ℕ) (d : First) → g < l.group → FirstIn l.fronts (g * 8) (g * 8 + 8) (slice_index_or l.firsts.items g d);
}
