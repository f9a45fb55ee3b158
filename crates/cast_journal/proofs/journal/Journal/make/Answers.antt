use Rattle.std.proofs.Common.{arith}
use Rattle.cast_journal.proofs.Journaling.{logged, gives_live, making_goes_on}
use Rattle.cast_journal.proofs.journal.Journal.make.Goals as goal

pub invariant_of-self-2 : goal.invariant_of-self-2
invariant_of-self-2 c =
    let i = c.self.inside in
    let on = making_goes_on c.id-from.result c.args.kind c.args.to c.args.slot in
    logged i.config _ _ i.node _ i.log.entries _ i.clock _ i.crash i.ended i.turns _ _ c.self.view_is c.requires c.self.invariant (omega arith, λ other. omega arith) c.log_frame.ensures.entries c.log_frame.ensures.room
    on.0 (gives_live i.node _ _ _ c.in_ok-frame.ensures.gives on.1)
