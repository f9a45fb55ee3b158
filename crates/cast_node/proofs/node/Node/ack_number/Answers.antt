use Rattle.std.proofs.Common.{sym, ◌∙◌}
use Rattle.cast_node.proofs.Wholes.{ack_fine}
use Rattle.cast_node.proofs.node.Node.ack_number.Goals as goal

pub count_frame-requires : goal.count_frame-requires
count_frame-requires c = ack_fine c.args.self.now c.args.to c.args.slot (sym c.ack_fault.ensures ∙ c.in_default.is)
