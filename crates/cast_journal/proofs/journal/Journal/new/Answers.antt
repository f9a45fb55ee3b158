use Rattle.std.proofs.Common.{ap, arith}
use Rattle.cast_node.specs.Kept.{Kept}
use Rattle.cast_journal.proofs.Journaling.{begun}
use Rattle.cast_journal.proofs.journal.Journal.new.Goals as goal

pub invariant_of-result : goal.invariant_of-result
invariant_of-result c =
    begun c.args.config.now _ c.in-Ok.node _ c.first_stamp.result c.args.crash c.args.turns
    (omega (arith, c.in_ok-log.ensures.room, c.log_limit.ensures))
    c.in_ok-log.ensures.entries c.first_stamp.ensures (ap (λ (k : Kept). k.live) c.in-Ok.ensures.ok)
