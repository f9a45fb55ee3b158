use Rattle.std.proofs.Common.{◌∙◌, sym}
use Rattle.cast_world.specs.Plans.{due_between_at}
use Rattle.cast_world.proofs.Planning.{nodes_more, nodes_same, none_due}
use Rattle.cast_world.proofs.due.add_due_from.Goals.{then-is_live+in_ok-add_due_between, else-is_live}
use Rattle.cast_world.proofs.due.add_due_from.Goals as goal

pub loop-taker-preserved : goal.loop-taker-preserved
loop-taker-preserved c bounded = elim c.if-is_live.branch [
  | then-is_live+in_ok-add_due_between w ↦
      nodes_more (due_between_at c.args.world.now c.args.giver) _ c.loop-taker.taker c.args.due.now c.loop-taker.due c.if-is_live.due (sym c.is_live.ensures ∙ w.if-is_live.true) (c.loop-taker.invariant bounded) (w.due-is ∙ w.in_ok-add_due_between.ensures bounded)
  | else-is_live w ↦
      nodes_same (due_between_at c.args.world.now c.args.giver) _ c.loop-taker.taker c.args.due.now c.loop-taker.due c.if-is_live.due (sym c.is_live.ensures ∙ w.if-is_live.false) (c.loop-taker.invariant bounded) w.due-is
]

pub returns-then-not-owes_one_of : goal.returns-then-not-owes_one_of
returns-then-not-owes_one_of c bounded =
    none_due c.args.world.now c.args.giver c.node_of.result.now c.args.live.now c.args.due.now c.node_of.ensures.node c.node_of.ensures.size c.requires.live (c.owes_one_of.ensures.0 c.if-not-owes_one_of.true)
