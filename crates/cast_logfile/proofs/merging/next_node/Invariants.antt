use Rattle.cast_logfile.specs.Fronts.{HasFront}
use Rattle.cast_logfile.proofs.merging.next_node.Given as goal

abbrev pub invariant-nodes : goal.invariant-nodes
invariant-nodes l = HasFront l.logs l.at l.node l.first
