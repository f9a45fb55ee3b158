use Rattle.std.proofs.Common.{not, map, refl, ap}
use Rattle.cast.proofs.Hearing.{keeps_following, twice}
use Rattle.cast.proofs.follower.FollowerClientJob.turn.Goals as goal

pub returns-clause-fact : goal.returns-clause-fact
returns-clause-fact g c given fact =
    let between = record c.args.self.now { left = c.submit_next-ticket.new.self } in
    keeps_following g.M.Machine.stands given c.args.self.now between c.hear_next.new.self
    c.args.client.now c.submit_next-ticket.new.client c.hear_next.new.client (not (not c.is_done.result))
    fact c.submit_next-ticket.ensures.next (refl, refl) (ap (λ t. map (λ m. m.1) t.taken) c.submit_next-ticket.ensures.tray)
    c.hear_next.ensures.orders c.hear_next.ensures.given c.hear_next.ensures.hears
    (λ done. (c.is_done.ensures.0 (twice c.is_done.result done)).0)
