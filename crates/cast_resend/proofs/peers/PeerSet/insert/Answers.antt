use Rattle.cast_message.proofs.Group.{bit_added}
use Rattle.cast_resend.proofs.peers.PeerSet.insert.Goals as goal

pub returns : goal.returns
returns c = bit_added c.self.inside.word c.args.self.now _ c.args.node c.self.view_is c.node.view_is c.requires
