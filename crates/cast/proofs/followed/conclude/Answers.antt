use Rattle.std.proofs.Common.{◌≡◌, subst}
use Rattle.cast_model.specs.Replies.{history, replies}
use Rattle.cast_world.specs.Group.{Stands}
use Rattle.cast.specs.Followed.{AreCaughtUp}
use Rattle.cast.proofs.Following.{prefixes, agree, have_taken, have_ordered, as_many}
use Rattle.cast.proofs.followed.conclude.Goals as goal

pub returns : goal.returns
returns g c config faults followers ran new =
    let run = c.args.run in
    let reports = run.report.reports in
    let stands = g.M.Machine.stands in
    let assembly = c.in_ok-assembly.assembly in
    let events = assembly.events in
    let results = assembly.replies in
    let merge = c.in_ok-assembly.ensures.merge in
    let world = subst (λ k. Stands k (history k events) assembly.world) ran.config_is c.in_ok-assembly.ensures.stands in
    let machines = c.in_ok-machines.machines.items in
    let caught = subst (λ l. AreCaughtUp stands l run.clients.items run.jobs.items machines) c.reports.ensures.shown
    (subst (λ l. AreCaughtUp stands c.reports.result.now l run.jobs.items machines) c.as_slice.ensures.value c.in_ok-machines.ensures) in
    record {
      machines = as_many config reports ran.linked events results merge world.accepted stands followers run.jobs.items run.clients.items machines ran.served new caught;
      ordered = have_ordered config reports ran.linked events results merge world.accepted stands followers run.jobs.items run.clients.items machines ran.served new caught;
      taken = have_taken config reports ran.linked events results merge world.accepted stands followers run.jobs.items run.clients.items machines ran.served new caught;
      prefix = prefixes config reports ran.linked events results merge world.accepted;
      agree = agree config reports ran.linked events results merge world.accepted;
      config_is = ran.config_is;
      linked = ran.linked;
      planned = ran.planned;
      logs = ran.logs;
      stamps = ran.stamps;
      origins = ran.origins;
      merge = merge;
      replies_are = subst (λ k. results ≡ replies k events) ran.config_is c.in_ok-assembly.ensures.replies;
      world = world;
    }
