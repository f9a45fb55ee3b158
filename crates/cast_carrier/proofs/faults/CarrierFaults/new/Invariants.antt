use Rattle.std.proofs.Common.{◌≡◌, length}
use Rattle.cast_carrier.specs.Fates.{AreByTarget}
use Rattle.cast_carrier.proofs.faults.CarrierFaults.new.Given as goal

abbrev pub invariant-loop-to : goal.invariant-loop-to
invariant-loop-to l = AreByTarget l.faults.items l.rows.items × (length l.rows.items ≡ l.to)
