use Rattle.cast_run.proofs.Wholes.{have_begun}
use Rattle.cast_run.proofs.run.run_scheduled.Goals as goal

pub run_by-requires : goal.run_by-requires
run_by-requires g c =
    let made = c.in_ok-made in
    record { begun = have_begun g.J.ClientJob.fact c.args.jobs.items made.made.actors.jobs.items made.ensures.ready.jobs_are made.ensures.ready.fresh c.requires.facts }

pub finish-requires : goal.finish-requires
finish-requires g c = (c.args.plan.now.faults, c.args.jobs.items, (c.in_ok-made.made.actors, c.in_ok-made.ensures.ready, c.in_ok-actors.ensures.back))

pub returns-clause-ran : goal.returns-clause-ran
returns-clause-ran g c = c.finish.ensures c.args.plan.now.faults c.args.jobs.items (c.in_ok-made.made.actors, c.in_ok-made.ensures.ready, c.in_ok-actors.ensures.back)
