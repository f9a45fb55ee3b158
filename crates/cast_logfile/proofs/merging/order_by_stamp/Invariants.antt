use Rattle.cast_logfile.specs.Fronts.{Taken}
use Rattle.cast_logfile.proofs.merging.order_by_stamp.Given as goal

abbrev pub invariant-steps : goal.invariant-steps
invariant-steps l = Taken l.logs l.at.items l.order
