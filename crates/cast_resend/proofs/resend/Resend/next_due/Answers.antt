use Rattle.std.proofs.Common.{◌<◌, sym, subst}
use Rattle.std.specs.FinSet as set
use Rattle.cast_resend.proofs.Members.{fewer_members}
use Rattle.cast_resend.proofs.Hoping.{nothing_hoped}
use Rattle.cast_resend.proofs.resend.Resend.next_due.Goals as goal

pub loop-to-smaller : goal.loop-to-smaller
loop-to-smaller c = subst (λ s. set.len s < set.len c.loop-to.self.hopeful) (sym c.in_default-ask.ensures.none) (fewer_members c.loop-to.self.hopeful c.in-Some.to c.in-Some.ensures.some.0)

pub returns-clause-none : goal.returns-clause-none
returns-clause-none c = nothing_hoped c.args.node.now c.loop-to.self c.loop-to.invariant.0.hopes c.in_default.ensures.none

pub ask-requires-clause-keeps : goal.ask-requires-clause-keeps
ask-requires-clause-keeps c = let k = c.loop-to.invariant.0 in record { hopes = k.hopes; remembers = k.remembers; again_below = k.again_below; given = k.given; place = k.place }

pub returns-clause-keeps : goal.returns-clause-keeps
returns-clause-keeps c = let k = c.loop-to.invariant.0 in record { hopes = k.hopes; remembers = k.remembers; again_below = k.again_below; given = k.given; place = k.place }
