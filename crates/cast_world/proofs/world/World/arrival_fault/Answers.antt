use Rattle.cast_world.proofs.Faults.{by_arrival, by_none}
use Rattle.cast_world.proofs.world.World.arrival_fault.Goals as goal

pub returns-in-Ok : goal.returns-in-Ok
returns-in-Ok c config past st =
    by_arrival config past c.args.self.now st c.args.from c.args.seq c.in-Ok.mark c.node_of.result.now c.arrive_fault.result c.in-Ok.ensures.found c.node_of.ensures.node c.arrive_fault.ensures

pub returns-in-Err : goal.returns-in-Err
returns-in-Err c config past st =
    by_none config past c.args.self.now st c.args.from c.args.seq c.in-Err.refusal c.in-Err.ensures.found.0 c.in-Err.ensures.found.1
