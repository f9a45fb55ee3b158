use Rattle.cast_node.proofs.Wholes.{send_fine}
use Rattle.cast_node.proofs.node.Node.send_numbers.Goals as goal

pub count_frame-seq-requires : goal.count_frame-seq-requires
count_frame-seq-requires c = (send_fine c.args.self.now c.args.to c.args.slot c.in_ok-message.ensures.ok).1
