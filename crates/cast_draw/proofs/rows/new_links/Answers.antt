use Rattle.cast_draw.specs.Gifts.{nothing_given}
use Rattle.cast_draw.proofs.RowLemmas.{made-more}
use Rattle.cast_draw.proofs.rows.new_links.Goals as goal

pub loop-node-preserved : goal.loop-node-preserved
loop-node-preserved c = made-more (nothing_given c.args.nodes) c.loop-node.node c.in_ok-new.field-0 c.push.new.self.items c.loop-node.links.items c.loop-node.invariant c.in_ok-new.ensures c.in_ok-push.ensures.items
