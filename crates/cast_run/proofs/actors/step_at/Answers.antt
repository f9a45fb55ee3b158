use Rattle.std.proofs.Common.{◌<◌, length, rules}
use Rattle.cast_run.proofs.Fair.{but_set}
use Rattle.cast_run.proofs.Still.{comes_at, stay_at}
use Rattle.cast_run.proofs.actors.step_at.Goals as goal

pub step-requires : goal.step-requires
step-requires g c =
    let actors = c.args.actors.now.items in
    let within : c.args.place < length actors = search rules in
    comes_at g.A.Actor.from actors c.args.place c.index_mut-actor.result.now within c.index_mut-actor.ensures.value c.requires

pub returns-in-Moved-clause-same : goal.returns-in-Moved-clause-same
returns-in-Moved-clause-same g c =
    let actors = c.args.actors.now.items in
    let within : c.args.place < length actors = search rules in
    stay_at g.A.Actor.from actors c.args.place c.index_mut-actor.result.now c.step.new.self within c.index_mut-actor.ensures.value c.step.ensures.same

pub returns-in-Ended-clause-same : goal.returns-in-Ended-clause-same
returns-in-Ended-clause-same g c =
    let actors = c.args.actors.now.items in
    let within : c.args.place < length actors = search rules in
    stay_at g.A.Actor.from actors c.args.place c.index_mut-actor.result.now c.step.new.self within c.index_mut-actor.ensures.value c.step.ensures.same

pub returns-in-Moved-clause-only : goal.returns-in-Moved-clause-only
returns-in-Moved-clause-only g c = but_set c.args.actors.now.items c.args.place c.step.new.self

pub returns-in-Ended-clause-only : goal.returns-in-Ended-clause-only
returns-in-Ended-clause-only g c = but_set c.args.actors.now.items c.args.place c.step.new.self
