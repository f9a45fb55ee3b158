use Rattle.std.proofs.Common.{refl, arith, ap}
use Rattle.cast_node.specs.Kept.{Kept}
use Rattle.cast_journal.proofs.Journaling.{logged, gives_live}
use Rattle.cast_journal.proofs.journal.Journal.order.Goals as goal

pub invariant_of-self : goal.invariant_of-self
invariant_of-self c =
    let i = c.self.inside in
    logged i.config _ _ i.node _ i.log.entries _ i.clock _ i.crash i.ended i.turns _ _ c.self.view_is c.requires c.self.invariant (omega arith, λ other. omega arith) c.push.ensures.entries c.push.ensures.room refl
    (gives_live i.node _ _ _ c.in-Ok.ensures.gives.1 refl)

pub invariant_of-self-in-Err : goal.invariant_of-self-in-Err
invariant_of-self-in-Err c =
    let i = c.self.inside in
    logged i.config _ _ i.node _ i.log.entries _ i.clock _ i.crash i.ended i.turns _ _ c.self.view_is c.requires c.self.invariant (omega arith, λ other. omega arith) c.push-in-Err.ensures.entries c.push-in-Err.ensures.room refl
    (ap (λ (k : Kept). k.live) c.in-Err.ensures.gives.1)
