use Rattle.std.proofs.Common.{refl, sym, ◌∙◌, arith}
use Rattle.cast_logfile.proofs.Misfits.{of_none, accepted_more, outcomes_more, places_more}
use Rattle.cast_logfile.proofs.misfit.find_misfit.Goals as goal

pub each-preserved : goal.each-preserved
each-preserved c =
    let none = sym c.is_some.ensures ∙ c.if-is_some.false in
    let ok = of_none c.misfit_at-misfit.result none c.misfit_at-misfit.ensures.accepted in
    let same = of_none c.misfit_at-misfit.result none c.misfit_at-misfit.ensures.outcome in
    let here = of_none c.misfit_at-misfit.result none c.misfit_at-misfit.ensures.place in
    let at = c.place_in-at.result in
    let reply = c.index-replies-index.result in
    record {
      accepted = accepted_more c.args.logs.now c.args.order.now c.args.replies.now c.each.index at reply (omega (arith, c.each-test.true)) (omega (arith, c.each-test.true, c.if-order-replies.false)) (c.place_in-at.ensures at) c.index-replies-index.is c.each.invariant.accepted ok;
      places = places_more c.args.logs.now c.args.order.now c.args.replies.now c.each.index at reply (omega (arith, c.each-test.true)) (omega (arith, c.each-test.true, c.if-order-replies.false)) (c.place_in-at.ensures at) c.index-replies-index.is c.each.invariant.places here;
      outcomes = outcomes_more c.args.logs.now c.args.order.now c.args.replies.now c.each.index at reply (omega (arith, c.each-test.true)) (omega (arith, c.each-test.true, c.if-order-replies.false)) (c.place_in-at.ensures at) c.index-replies-index.is c.each.invariant.outcomes same;
    }
