use Rattle.std.proofs.Common.{length, ap, ◌∙◌, arith}
use Rattle.cast_fifo.specs.HeldBack.{held_of, heard_items}
use Rattle.cast_fifo.proofs.Turns.{length-numbered}
use Rattle.cast_fifo.proofs.HoldBack.turn.Goals as goal

pub release-requires-clause-room : goal.release-requires-clause-room
release-requires-clause-room c =
    let held = held_of c.args.self.now c.args.sender in
    let count = ap length c.in_ok-messages.ensures.messages ∙ length-numbered _ _ _ ∙ ap (λ o. length (heard_items held c.args.number o)) c.as_ref.ensures.value in
    omega (arith, count, c.in_ok-items.ensures.exact, c.in_ok-items.ensures.len, c.len.ensures, c.in_ok-messages.messages.ok)
