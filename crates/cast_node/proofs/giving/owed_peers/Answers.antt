use Rattle.std.proofs.Common.{◌∙◌, ap, arith}
use Rattle.std.specs.FinSet as set
use Rattle.cast_message.proofs.Below.{none_below, one_below, no_more_below}
use Rattle.cast_node.specs.Giving.{bare}
use Rattle.cast_node.proofs.Owing.{bare_long, is_owed, owed_below, owed_here, not_owed_here}
use Rattle.cast_node.proofs.giving.owed_peers.Goals.{then-owed-ne0, else-owed-ne0}
use Rattle.cast_node.proofs.giving.owed_peers.Goals as goal

pub loop-peer-init : goal.loop-peer-init
loop-peer-init c q = ap (λ s. set.contains s q) c.new-owed.ensures ∙ none_below (is_owed (bare c.args.links.now)) q

pub loop-peer-preserved : goal.loop-peer-preserved
loop-peer-preserved c = elim c.if-owed-ne0.branch [
  | then-owed-ne0 w ↦ λ q. ap (λ s. set.contains s q) (w.owed-is ∙ w.insert.ensures) ∙ one_below (is_owed (bare c.args.links.now)) c.loop-peer.owed c.loop-peer.peer c.loop-peer.invariant (owed_here c.args.links.now c.loop-peer.peer c.owed.result c.index-links-peer.result c.index-links-peer.is c.loop-peer-test.true c.owed.ensures w.if-owed-ne0.true) q
  | else-owed-ne0 w ↦ λ q. ap (λ s. set.contains s q) w.owed-is ∙ no_more_below (is_owed (bare c.args.links.now)) c.loop-peer.owed c.loop-peer.peer c.loop-peer.invariant (not_owed_here c.args.links.now c.loop-peer.peer c.owed.result c.index-links-peer.result c.index-links-peer.is c.loop-peer-test.true c.owed.ensures w.if-owed-ne0.false) q
]

pub returns : goal.returns
returns c q = c.loop-peer.invariant q ∙ owed_below (bare c.args.links.now) c.loop-peer.peer q (omega (arith, bare_long c.args.links.now, c.loop-peer-test.false))
