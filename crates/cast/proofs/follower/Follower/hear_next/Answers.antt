use Rattle.std.proofs.Common.{sym, subst}
use Rattle.cast_run.specs.Jobs.{got}
use Rattle.cast.specs.Followers.{HearsMore}
use Rattle.cast.proofs.Hearing.{got_more}
use Rattle.cast.proofs.follower.Follower.hear_next.Goals as goal

pub returns-in-Some-clause-hears : goal.returns-in-Some-clause-hears
returns-in-Some-clause-hears g c =
    let client = c.args.client.now in
    let took = c.in-Some.ensures.taken in
    subst (HearsMore g.M.Machine.stands c.args.self.now (got client) c.hear.new.self)
    (sym (got_more client.tray.taken c.next.new.self.tray.taken took.0 c.in-Some.notice took.2))
    (c.hear.ensures.hears (got client))
