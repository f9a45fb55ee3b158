use Rattle.std.proofs.Common.{subst}
use Rattle.cast.specs.Followers.{FollowerFact, AreNewFollowers}
use Rattle.cast_run.specs.Ran.{IsRun}
use Rattle.cast.proofs.followed.run_followers.Goals as goal

pub returns-clause-followed : goal.returns-clause-followed
returns-clause-followed g c =
    let stands = g.M.Machine.stands in
    let faults = c.args.plan.now.faults in
    let live = c.in_ok-live.live in
    c.in_ok-conclude.ensures c.args.config faults c.args.followers
    (subst (λ jobs. IsRun c.args.config faults (FollowerFact stands) jobs live) c.into_jobs.ensures.jobs c.in_ok-live.ensures.ran)
    (subst (AreNewFollowers stands) c.into_jobs.ensures.jobs c.into_jobs.ensures.new)
