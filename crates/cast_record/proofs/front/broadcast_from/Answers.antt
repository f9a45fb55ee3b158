use Rattle.std.proofs.Common.{sym}
use Rattle.cast_record.proofs.FrontLemmas.{broadcast_said}
use Rattle.cast_record.proofs.front.broadcast_from.Goals as goal

pub returns : goal.returns
returns c =
    broadcast_said c.args.rest.now c.in_ok-sender.rest.now c.in_ok-number.word.now c.in_ok-sender.sender c.in_ok-number.number c.in_ok-item.item
    c.in_ok-sender.ensures c.in_ok-number.ensures (sym c.in_ok-item.ensures)
