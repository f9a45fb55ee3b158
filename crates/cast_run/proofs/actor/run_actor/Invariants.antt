use Rattle.cast_run.proofs.actor.run_actor.Given as goal

abbrev pub invariant-loop : goal.invariant-loop
invariant-loop g l = g.A.Actor.from l.fn.actor l.actor
