use Rattle.std.proofs.Common.{length, ap, ◌∙◌, arith}
use Rattle.cast_relay.specs.Pairs.{by_sender}
use Rattle.cast_relay.proofs.Senders.{by_sender-none, length-replicate}
use Rattle.cast_relay.proofs.Relay.new.Goals as goal

pub returns : goal.returns
returns c = λ k. record { me = c.args.me; own = 0; numbers = (ap by_sender c.loop-sender.invariant ∙ by_sender-none c.loop-sender._sender (omega (arith, c.loop-sender.auto._sender-end, c.min-sender-end.ensures))) k }

pub invariant_of-result : goal.invariant_of-result
invariant_of-result c =
    let long = ap length c.loop-sender.invariant ∙ length-replicate c.loop-sender._sender in
    (omega (arith, long, c.requires, c.loop-sender.auto._sender-end, c.loop-sender-test.false, c.min-sender-end.ensures, c.ranges), omega (arith, long, c.loop-sender.auto._sender-end, c.min-sender-end.ensures))
