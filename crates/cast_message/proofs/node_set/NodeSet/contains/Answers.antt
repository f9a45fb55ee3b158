use Rattle.std.proofs.Common.{arith}
use Rattle.cast_message.proofs.Nodes.{node_test}
use Rattle.cast_message.proofs.node_set.NodeSet.contains.Goals as goal

pub returns : goal.returns
returns c = node_test _ _ _ _ _ record { set_is = c.self.view_is; node_is = c.node.view_is; place_is = c.from.ensures; within = omega arith }
