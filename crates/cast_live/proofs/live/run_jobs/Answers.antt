use Rattle.cast_run.specs.Jobs.{told_job}
use Rattle.cast_live.proofs.LiveLemmas.{new_fact}
use Rattle.cast_live.proofs.live.run_jobs.Goals as goal

pub run_live-requires-clause-facts : goal.run_live-requires-clause-facts
run_live-requires-clause-facts g c lifetimes within i node job at = new_fact job (c.requires i (told_job node job) at)

pub run_scheduled-requires : goal.run_scheduled-requires
run_scheduled-requires g c = record { facts = λ i node job at. new_fact job (c.requires i (told_job node job) at) }
