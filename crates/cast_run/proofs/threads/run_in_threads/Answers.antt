use Rattle.cast_engine.specs.Engines.{IsSameEngine}
use Rattle.cast_carrier.specs.Carriers.{IsSameCarrier}
use Rattle.cast_run.specs.Seats.{IsSameSeat}
use Rattle.cast_run.proofs.Joined.{kept_same}
use Rattle.cast_run.proofs.threads.run_in_threads.Goals as goal

pub returns : goal.returns
returns g c =
    let threads = c.start.new.self in
    let started = c.in_default.ensures in
    record {
      engines = kept_same _ (λ p. p.was.value) (λ a b. IsSameEngine a b) (λ p x k. k) threads.engines.items c.join_into.result.items c.join_into.ensures _ started.engines;
      carriers = kept_same _ (λ p. p.was.value) (λ a b. IsSameCarrier a b) (λ p x k. k) threads.carriers.items c.join_into-2.result.items c.join_into-2.ensures _ started.carriers;
      jobs_are = kept_same _ (λ p. p.was.value) (λ a b. IsSameSeat g.J.ClientJob.fact a b) (λ p x k. k) threads.jobs.items c.join_into-3.result.items c.join_into-3.ensures _ started.jobs;
    }
