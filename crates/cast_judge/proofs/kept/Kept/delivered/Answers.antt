use Rattle.cast_judge.proofs.NodeLemmas.{none_delivered}
use Rattle.cast_judge.proofs.kept.Kept.delivered.Goals as goal

pub returns-in-None : goal.returns-in-None
returns-in-None c = none_delivered c.args.self.now.nodes.items c.args.node c.args.sender c.in-None.ensures
