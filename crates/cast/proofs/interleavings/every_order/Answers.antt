use Rattle.std.proofs.Common.{subst, sym, refl, length, map, ap, ◌∙◌}
use Rattle.std.specs.List.{sum}
use Rattle.cast.specs.Orders.{HoldsAlong, IsNext, orders}
use Rattle.cast.proofs.Tries.{found_all, found_more, found_refused}
use Rattle.cast.proofs.interleavings.every_order.Goals as goal

pub returns-then-branch : goal.returns-then-branch
returns-then-branch g c =
    found_all g.C.State.Machine.stands g.C.OrderCheck.good (map length c.args.streams.now) c.as_slice-2.result.now c.new-order.result.items c.in-Some.steps
    c.saturating_sub.result _ c.walk.new.visitor c.in_ok-walk.field-0 (c.as_slice-2.ensures.value ∙ c.in_ok-counts.ensures)
    (c.in-Some.ensures.some ∙ ap sum (c.as_slice.ensures.value ∙ c.in_ok-counts.ensures)) c.new-order.ensures.items c.if-branch.true c.in_ok-walk.ensures.visits
    c.saturating_sub.ensures

pub returns : goal.returns
returns g c =
    found_more g.C.State.Machine.stands g.C.OrderCheck.good (map length c.args.streams.now) c.as_slice-2.result.now c.new-order.result.items c.in-Some.steps
    _ c.walk.new.visitor c.in_ok-walk.field-0 (c.as_slice-2.ensures.value ∙ c.in_ok-counts.ensures)
    (c.in-Some.ensures.some ∙ ap sum (c.as_slice.ensures.value ∙ c.in_ok-counts.ensures)) c.new-order.ensures.items c.if-branch.false c.in_ok-walk.ensures.visits
    c.in-None.is

pub returns-in-Some-refused : goal.returns-in-Some-refused
returns-in-Some-refused g c =
    let all = map length c.args.streams.now in
    subst (λ v. IsNext (HoldsAlong g.C.State.Machine.stands g.C.OrderCheck.good c.args.check.now c.args.streams.now) (orders all) v.items) (sym c.in-Some-refused.order-is)
    (found_refused g.C.State.Machine.stands g.C.OrderCheck.good all c.as_slice-2.result.now c.new-order.result.items c.in-Some.steps
    _ c.walk.new.visitor c.in_ok-walk.field-0 c.in-Some-refused.order (c.as_slice-2.ensures.value ∙ c.in_ok-counts.ensures)
    (c.in-Some.ensures.some ∙ ap sum (c.as_slice.ensures.value ∙ c.in_ok-counts.ensures)) c.new-order.ensures.items c.if-branch.false c.in_ok-walk.ensures.visits
    refl c.in-Some-refused.is)
