use Rattle.std.proofs.Common.{refl, arith}
use Rattle.cast_journal.proofs.Journaling.{crashed}
use Rattle.cast_journal.proofs.journal.Journal.log_crash.Goals as goal

pub invariant_of-self : goal.invariant_of-self
invariant_of-self c =
    let i = c.self.inside in
    crashed i.config _ _ i.node _ i.log.entries _ i.clock _ i.crash i.ended i.turns _ _ c.self.view_is c.requires.running c.requires.room c.requires.due c.self.invariant (omega arith, λ other. omega arith) c.push.ensures.entries c.push.ensures.room refl
