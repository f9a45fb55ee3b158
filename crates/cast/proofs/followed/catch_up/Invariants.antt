use Rattle.cast.specs.Followed.{IsCaughtUp}
use Rattle.cast_run.proofs.Each.{Paired}
use Rattle.cast.proofs.followed.catch_up.Given as goal

abbrev pub invariant-loop-follower : goal.invariant-loop-follower
invariant-loop-follower g l =
    (goal.iterator-loop-follower g).can_next l.follower-iterator
    × (goal.iterator-loop-follower g).is_finite l.follower-iterator
    × Paired (IsCaughtUp g.M.Machine.stands l.fn.reports l.fn.clients) l.fn.followers.items l.yielded l.follower-iterator.rest.items l.machines.items
