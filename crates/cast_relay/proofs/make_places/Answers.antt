use Rattle.std.proofs.Common.{◌<◌, ◌++◌, ◌∷◌, [], length, ap, ◌∙◌, arith}
use Rattle.cast_relay.specs.Pairs.{by_sender}
use Rattle.cast_relay.proofs.Senders.{by_sender-push}
use Rattle.cast_relay.proofs.make_places.Goals as goal

pub loop-new-preserved : goal.loop-new-preserved
loop-new-preserved c =
    let i = c.loop-new.invariant in
    let before : length c.loop-new.numbers.items < 256 = omega (arith, i.len, c.requires.place, c.loop-new-test.true) in
    record {
      same = ap by_sender (c.in_ok-push.ensures.items ∙ ap (λ x. c.loop-new.numbers.items ++ x ∷ []) c.new.ensures) ∙ by_sender-push c.loop-new.numbers.items before ∙ i.same;
      len = omega (arith, c.in_ok-push.ensures.len, i.len);
      few = omega (arith, c.in_ok-push.ensures.len, before);
      more = omega (arith, c.in_ok-push.ensures.len, i.more);
    }
