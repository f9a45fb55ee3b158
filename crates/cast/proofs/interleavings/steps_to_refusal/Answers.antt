use Rattle.std.proofs.Common.{◌+◌, refl, subst, arith}
use Rattle.cast.specs.Orders.{messages_of}
use Rattle.cast.proofs.Tries.{good_first, good_next, messages_more}
use Rattle.cast.proofs.interleavings.steps_to_refusal.Goals as goal

pub loop-place-init : goal.loop-place-init
loop-place-init g c = (
  c.in_ok-state.ensures,
  good_first g.C.State.Machine.stands g.C.OrderCheck.good c.args.check.now c.args.streams.now c.args.order.now c.in_ok-state.state c.in_ok-state.ensures
      (c.if-not-holds.ensures refl),
)

pub loop-place-preserved : goal.loop-place-preserved
loop-place-preserved g c =
    let l = c.loop-place in
    let stands = g.C.State.Machine.stands in
    let streams = c.args.streams.now in
    let order = c.args.order.now in
    let now : stands c.apply_next.new.state (messages_of streams order (l.place + 1)) =
    subst (stands c.apply_next.new.state) (messages_more streams order l.place) (c.in_ok-apply_next.ensures (messages_of streams order l.place) l.invariant.0) in (
      now,
      good_next stands g.C.OrderCheck.good c.args.check.now streams order l.place c.apply_next.new.state now (c.if-not-holds-2.ensures refl) l.invariant.1,
    )

pub returns-clause-holds : goal.returns-clause-holds
returns-clause-holds g c none n few = c.loop-place.invariant.1 n (omega (arith, few, c.loop-place-test.false))
