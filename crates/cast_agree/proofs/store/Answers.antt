use Rattle.cast_agree.proofs.Maps.{inserted}
use Rattle.cast_agree.proofs.store.Goals as goal

pub returns-clause-tallies : goal.returns-clause-tallies
returns-clause-tallies c = inserted _ _ c.args.instance c.args.tally c.in-Ok.ensures.updates.0
