use Rattle.std.proofs.Common.{ap, arith}
use Rattle.cast_link.specs.Taken.{Inward}
use Rattle.cast_link.proofs.Slots.{far_taken, far_window}
use Rattle.cast_link.proofs.link_in.LinkIn.take.Goals as goal

pub invariant_of-self-2 : goal.invariant_of-self-2
invariant_of-self-2 c =
    far_window c.self.inside.base c.self.inside.words.items c.self.inside.far.keys c.insert.new.self.keys c.args.slot c.self.invariant (omega (arith, c.saturating_sub.ensures, c.if-saturating_sub-lt-REACH.false)) c.in_ok-insert.ensures.keys

pub returns-clause-ok : goal.returns-clause-ok
returns-clause-ok c =
    far_taken c.self.inside.base c.self.inside.words.items c.self.inside.far.keys c.insert.new.self.keys c.args.self.now.slots c.args.slot (ap (λ (i : Inward). i.slots) c.self.view_is) c.ranges.slot.fits c.in_ok-insert.ensures.updates.0
