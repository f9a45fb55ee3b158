use Rattle.cast_c.proofs.NewPeers.{of_numbers}
use Rattle.cast_c.proofs.peer.cast_c_peer_new.Goals as goal

pub returns-in-Ok-clause-made : goal.returns-in-Ok-clause-made
returns-in-Ok-clause-made c done =
    of_numbers c.args.config.now c.in-Ok.checked c.args.group c.args.me c.in-Ok.ensures.ok c.make.new.peer.loose.peer (c.make.ensures.made done)
