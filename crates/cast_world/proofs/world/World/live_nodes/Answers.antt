use Rattle.std.proofs.Common.{◌∙◌, sym, ap}
use Rattle.std.specs.FinSet as set
use Rattle.cast_message.proofs.Below.{none_below, one_below, no_more_below}
use Rattle.cast_world.specs.Group.{node_at}
use Rattle.cast_world.proofs.world.World.live_nodes.Goals.{then-is_live, else-is_live}
use Rattle.cast_world.proofs.world.World.live_nodes.Goals as goal

pub loop-node-init : goal.loop-node-init
loop-node-init c q = ap (λ s. set.contains s q) c.new-live.ensures ∙ none_below (λ p. (node_at c.args.self.now p).live) q

pub loop-node-preserved : goal.loop-node-preserved
loop-node-preserved c = elim c.if-is_live.branch [
  | then-is_live w ↦ λ q. ap (λ s. set.contains s q) (w.live-is ∙ w.insert.ensures) ∙ one_below (λ p. (node_at c.args.self.now p).live) c.loop-node.live c.loop-node.node c.loop-node.invariant (sym c.is_live.ensures ∙ w.if-is_live.true) q
  | else-is_live w ↦ λ q. ap (λ s. set.contains s q) w.live-is ∙ no_more_below (λ p. (node_at c.args.self.now p).live) c.loop-node.live c.loop-node.node c.loop-node.invariant (sym c.is_live.ensures ∙ w.if-is_live.false) q
]
