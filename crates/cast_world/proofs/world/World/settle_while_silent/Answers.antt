use Rattle.cast_world.proofs.Settled.{front_none, front_more}
use Rattle.cast_world.proofs.world.World.settle_while_silent.Goals as goal

pub runs-init : goal.runs-init
runs-init c = front_none c.args.self.now c.args.due.now

pub runs-preserved : goal.runs-preserved
runs-preserved c = front_more _ _ _ _ _ _ c.runs.invariant c.settle_first_run.ensures.settles

pub returns : goal.returns
returns c = front_more _ _ _ _ _ _ c.runs.invariant c.settle_first_run.ensures.settles
