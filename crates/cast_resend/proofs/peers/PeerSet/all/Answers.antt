use Rattle.std.proofs.Common.{◌≡◌, true, ◌∙◌, sym, subst, arith}
use Rattle.std.specs.FinSet as set
use Rattle.cast_resend.proofs.Members.{all_added}
use Rattle.cast_resend.proofs.peers.PeerSet.all.Goals as goal
use Rattle.cast_resend.proofs.peers.PeerSet.all.Goals.{then-from-nodes, else-from-nodes}

pub loop-node-preserved : goal.loop-node-preserved
loop-node-preserved c = λ q below within. elim c.if-from-nodes.branch [
  | then-from-nodes w ↦ all_added c.loop-node.all c.if-from-nodes.all c.loop-node.node q c.args.nodes c.loop-node.invariant (w.all-is ∙ w.insert.ensures) below within
  | else-from-nodes w ↦ subst (λ t. set.contains t q ≡ true) (sym w.all-is) (c.loop-node.invariant q (omega (arith, w.if-from-nodes.false, c.from.ensures)) within)
]
