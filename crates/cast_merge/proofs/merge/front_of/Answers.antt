use Rattle.std.proofs.Common.{◌∙◌, sym, slice_get, refl, arith}
use Rattle.cast_merge.proofs.Fronts.{step_there, none_there, left_none}
use Rattle.cast_merge.proofs.merge.front_of.Goals as goal

pub returns-then-is_step_at : goal.returns-then-is_step_at
returns-then-is_step_at c =
    let log = c.args.log.now in
    let place = c.loop-place.place in
    sym c.loop-place.invariant ∙ step_there log place c.stamp_at-stamp.result (slice_get log place) c.is_step_at.result refl c.is_step_at.ensures c.if-is_step_at.true c.stamp_at-stamp.ensures

pub loop-place-preserved : goal.loop-place-preserved
loop-place-preserved c =
    let log = c.args.log.now in
    let place = c.loop-place.place in
    none_there log place (slice_get log place) c.is_step_at.result refl c.is_step_at.ensures c.if-is_step_at.false ∙ c.loop-place.invariant

pub returns : goal.returns
returns c = sym c.loop-place.invariant ∙ left_none c.args.log.now c.loop-place.place (omega (arith, c.loop-place-test.false, c.len-place-end.ensures))
