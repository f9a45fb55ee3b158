-- The first of the groups so far.
use Rattle.std.proofs.Common.{◌*◌, List}
use Rattle.cast_merge.specs.declared.merge.Front.{Front}
use Rattle.cast_merge.specs.Fronts.{FirstIn, AreFirsts}
use Rattle.cast_merge.proofs.merge.first_place.Given as goal

abbrev pub invariant-loop-group : goal.invariant-loop-group
invariant-loop-group l = (fronts : List Front) → AreFirsts fronts l.firsts → FirstIn fronts 0 (l.group * 8) l.first
