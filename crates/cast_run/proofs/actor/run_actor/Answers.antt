use Rattle.cast_run.proofs.actor.run_actor.Goals as goal

pub step_on-requires : goal.step_on-requires
step_on-requires g c = (c.args.actor, c.loop.invariant)

pub loop-preserved : goal.loop-preserved
loop-preserved g c = c.step_on.ensures c.args.actor c.loop.invariant
