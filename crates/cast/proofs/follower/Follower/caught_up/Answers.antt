use Rattle.cast.proofs.Hearing.{took_more}
use Rattle.cast.proofs.follower.Follower.caught_up.Goals as goal

pub loop-notice-preserved : goal.loop-notice-preserved
loop-notice-preserved g c =
    let l = c.loop-notice in
    took_more g.M.Machine.stands c.args.self.machine l.machine c.hand_on-said.new.machine _ l.notice-index c.notice-item.result
    c.loop-notice-test.true c.notice-item.is l.invariant c.hand_on-said.ensures
