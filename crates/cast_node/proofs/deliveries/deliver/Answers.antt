use Rattle.std.proofs.Common.{length, ap, ◌∙◌, arith}
use Rattle.cast_fifo.specs.HeldBack.{held_of, heard_items}
use Rattle.cast_model.proofs.Fronts.{length-numbered}
use Rattle.cast_node.proofs.deliveries.deliver.Goals as goal

pub release-requires-clause-room : goal.release-requires-clause-room
release-requires-clause-room c =
    let held = held_of c.args.hold_back.now c.args.sender in
    let count = ap length c.in_ok-messages.ensures.messages ∙ length-numbered c.args.sender held.next (heard_items held c.args.number _) in
    omega (arith, count, ap (λ o. length (heard_items held c.args.number o)) c.as_ref.ensures.value, c.len.ensures, c.in_ok-messages.messages.ok, c.in_ok-reserve.ensures.ok)
