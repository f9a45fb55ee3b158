use Rattle.std.proofs.Common.{◌≤◌, ◌+◌, arith, subst, sym, drop}
use Rattle.cast_world.specs.DueRuns.{slots_of}
use Rattle.cast_world.specs.Settled.{SettlesFront, SettlesSilently}
use Rattle.cast_world.proofs.DueRuns.{length-slots_of, first_slots}
use Rattle.cast_world.proofs.Settled.{front_none, front_taken}
use Rattle.cast_world.proofs.world.World.settle_first_run.Goals as goal

pub returns-in_default-clause-settles : goal.returns-in_default-clause-settles
returns-in_default-clause-settles c = front_none _ _

pub returns-in_default-checked_add-clause-settles : goal.returns-in_default-checked_add-clause-settles
returns-in_default-checked_add-clause-settles c = front_none _ _

pub returns-clause-settles : goal.returns-clause-settles
returns-clause-settles c =
    let run = c.in-Some.run' in
    let bound : c.settle_run-settled.result ≤ run.more + 1 = (let few = c.settle_run-settled.ensures.few in let last = c.in-Some-checked_add.ensures.1 in omega (arith, few, last)) in
    let long = length-slots_of run in
    subst (λ new. SettlesFront c.args.self.now c.args.due.now new c.settle_run-settled.new.self) (sym c.skip.ensures)
    (front_taken c.args.self.now c.settle_run-settled.new.self c.args.due.now (slots_of run) (drop (run.more + 1) c.args.due.now) c.settle_run-settled.result c.in-Some.ensures.some (omega (arith, bound, long))
    (subst (λ ds. SettlesSilently c.args.self.now ds c.settle_run-settled.new.self) (first_slots run c.settle_run-settled.result bound) c.settle_run-settled.ensures.settles))
