use Rattle.cast_world.proofs.DueRuns.{run_after}
use Rattle.cast_world.proofs.due_run.Run.after.Goals as goal

pub returns : goal.returns
returns c = run_after c.args.self.from c.args.self.to c.args.count c.args.self.first c.args.self.more c.requires
