use Rattle.std.proofs.Common.{◌∙◌, [], sym}
use Rattle.std.specs.List.{flat_map}
use Rattle.cast_world.specs.Plans.{due_between_at, live_at}
use Rattle.cast_world.proofs.Planning.{nodes_more, nodes_same}
use Rattle.cast_world.proofs.due.find_due.Goals.{then-is_live+in_ok-add_due_from, else-is_live}
use Rattle.cast_world.proofs.due.find_due.Goals as goal

pub loop-giver-preserved : goal.loop-giver-preserved
loop-giver-preserved c bounded = elim c.if-is_live.branch [
  | then-is_live+in_ok-add_due_from w ↦
      nodes_more (λ p. flat_map (due_between_at c.args.world.now p) (live_at c.args.world.now)) _ c.loop-giver.giver [] c.loop-giver.due c.if-is_live.due (sym c.is_live.ensures ∙ w.if-is_live.true) (c.loop-giver.invariant bounded) (w.due-is ∙ w.in_ok-add_due_from.ensures bounded)
  | else-is_live w ↦
      nodes_same (λ p. flat_map (due_between_at c.args.world.now p) (live_at c.args.world.now)) _ c.loop-giver.giver [] c.loop-giver.due c.if-is_live.due (sym c.is_live.ensures ∙ w.if-is_live.false) (c.loop-giver.invariant bounded) w.due-is
]
