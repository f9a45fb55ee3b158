use Rattle.cast_peer.proofs.Receiving.{received}
use Rattle.cast_peer.proofs.peer.Peer.receive.Goals as goal

pub returns-in-None-clause-ok : goal.returns-in-None-clause-ok
returns-in-None-clause-ok c =
    let fit = c.in-None.ensures.none in
    received c.args.self.now.config c.args.self.now.group c.args.self.now.journal c.take.new.self.journal c.args.bytes.now c.in-Ok.packet c.take.result c.in-Ok.ensures.exact c.in-Ok.ensures.numbers fit.0 fit.3 c.take.ensures.ok
