use Rattle.cast_message.proofs.Group.{bit_removed}
use Rattle.cast_resend.proofs.peers.PeerSet.remove.Goals as goal

pub returns : goal.returns
returns c = bit_removed c.self.inside.word c.args.self.now _ c.args.node c.self.view_is c.node.view_is c.requires
