use Rattle.std.proofs.Common.{◌≡◌, take}
use Rattle.cast_logfile.proofs.same.are_same_decisions.Given as goal

abbrev pub invariant-each : goal.invariant-each
invariant-each l = take l.place l.one ≡ take l.place l.other
