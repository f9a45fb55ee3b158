use Rattle.cast_peer.proofs.Linking.{links}
use Rattle.cast_peer.proofs.law.links_peers.Goals as goal

pub returns : goal.returns
returns c = links
