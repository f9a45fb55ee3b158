use Rattle.std.proofs.Common.{arith}
use Rattle.cast_resend.proofs.Members.{contains_is, contains_past}
use Rattle.cast_resend.proofs.peers.PeerSet.contains.Goals as goal

pub returns-then-node-ge64-clause-is : goal.returns-then-node-ge64-clause-is
returns-then-node-ge64-clause-is c = contains_past c.self.inside.word c.node.inside.0 c.args.node c.args.self.now c.self.view_is c.node.view_is (omega (arith, c.if-node-ge64.true))

pub returns-clause-is : goal.returns-clause-is
returns-clause-is c = contains_is c.self.inside.word c.node.inside.0 c.args.node c.args.self.now c.self.view_is c.node.view_is (omega (arith, c.if-node-ge64.false))
