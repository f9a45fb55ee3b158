use Rattle.cast_run.proofs.actors.Actors.step.Goals as goal

pub step_at-requires : goal.step_at-requires
step_at-requires g c = (c.requires.0.engines.items, c.requires.1.engines)

pub step_at-requires-in-Carrier : goal.step_at-requires-in-Carrier
step_at-requires-in-Carrier g c = (c.requires.0.carriers.items, c.requires.1.carriers)

pub step_at-requires-in-Job : goal.step_at-requires-in-Job
step_at-requires-in-Job g c = (c.requires.0.jobs.items, c.requires.1.jobs_are)

pub returns-in-Engine-clause-same : goal.returns-in-Engine-clause-same
returns-in-Engine-clause-same g c was h = record { engines = c.step_at.ensures.same was.engines.items h.engines; carriers = h.carriers; jobs_are = h.jobs_are }

pub returns-in-Carrier-clause-same : goal.returns-in-Carrier-clause-same
returns-in-Carrier-clause-same g c was h = record { engines = h.engines; carriers = c.step_at-in-Carrier.ensures.same was.carriers.items h.carriers; jobs_are = h.jobs_are }

pub returns-in-Job-clause-same : goal.returns-in-Job-clause-same
returns-in-Job-clause-same g c was h = record { engines = h.engines; carriers = h.carriers; jobs_are = c.step_at-in-Job.ensures.same was.jobs.items h.jobs_are }
