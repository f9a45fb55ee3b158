use Rattle.cast.specs.Orders.{messages_of}
use Rattle.cast.proofs.Tries.{GoodUpTo}
use Rattle.cast.proofs.interleavings.steps_to_refusal.Given as goal

abbrev pub invariant-loop-place : goal.invariant-loop-place
invariant-loop-place g l =
    g.C.State.Machine.stands l.state (messages_of l.streams l.order l.place)
    × GoodUpTo g.C.State.Machine.stands g.C.OrderCheck.good l.check l.streams l.order l.place
