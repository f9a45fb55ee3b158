use Rattle.cast_run.proofs.Waiting.{oldest_first, oldest_now, oldest_still}
use Rattle.cast_run.proofs.waits.find_oldest.Goals as goal
use Rattle.cast_run.proofs.waits.find_oldest.Goals.{then-live-place, else-live-place}

pub loop-place-init : goal.loop-place-init
loop-place-init c = (c.requires, oldest_first c.args.live.now c.requires)

pub loop-place-preserved : goal.loop-place-preserved
loop-place-preserved c =
    let l = c.loop-place in
    let live = c.args.live.now in
    elim c.if-live-place.branch [
      | then-live-place w ↦ rw w.oldest-is (c.loop-place-test.true, oldest_now live l.place l.oldest _ c.loop-place-test.true l.invariant.1 w.if-live-place.true)
      | else-live-place w ↦ rw w.oldest-is (l.invariant.0, oldest_still live l.place l.oldest _ c.loop-place-test.true l.invariant.1 w.if-live-place.false)
    ]
