use Rattle.std.proofs.Common.{arith}
use Rattle.cast_run.proofs.Waiting.{keeps_first}
use Rattle.cast_run.proofs.waits.Waits.new.Goals as goal

pub invariant_of-result : goal.invariant_of-result
invariant_of-result c = keeps_first c.in_ok-live.live.items c.args.longest c.len-most.result (omega (arith, c.len-most.ensures, c.in_ok-live.live.ok)) c.in_ok-live.ensures.1
