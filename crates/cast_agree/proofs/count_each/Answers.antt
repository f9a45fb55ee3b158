use Rattle.std.proofs.Common.{◌≡◌, ◌+◌, ◌++◌, ◌∷◌, drop, length, sym, ap, ◌∙◌, arith}
use Rattle.std.specs.Option.{option_to_list}
use Rattle.std.proofs.lemmas.List.{drop_all}
use Rattle.cast_message.proofs.Lists.{drop-next}
use Rattle.cast_agree.proofs.Journal.{counted_all-next, counted_all-none, decisions_all-next, decisions_all-none}
use Rattle.cast_agree.proofs.count_each.Goals as goal

pub loop-message-preserved : goal.loop-message-preserved
loop-message-preserved c =
    let i = c.loop-message.invariant in
    let m = c.message-item.result in
    let messages = c.args.messages.now in
    let k = c.loop-message.message-index in
    let next : drop k messages ≡ m ∷ drop (k + 1) messages = drop-next messages k m (omega (arith, c.loop-message-test.true, c.loop-message.auto.message-index-end)) c.message-item.is in
    let decided = c.put.ensures.items ∙ ap (λ d. c.loop-message.decisions.items ++ option_to_list d) c.count-decision.ensures.decision in
    record {
      counted = counted_all-next _ _ m _ _ next c.count-decision.ensures.after ∙ i.counted;
      decided = decisions_all-next _ _ m _ _ c.loop-message.decisions.items c.put.new.decisions.items next c.count-decision.ensures.after decided ∙ i.decided;
      room = omega (arith, ap length next, i.room, c.count-decision.ensures.room);
      space = omega (arith, ap length next, i.space, c.put.ensures.len, c.put.ensures.room);
    }

pub returns-clause-counted : goal.returns-clause-counted
returns-clause-counted c =
    let end = drop_all c.loop-message.message-index c.args.messages.now (omega (arith, c.loop-message-test.false, c.loop-message.auto.message-index-end)) in
    sym (counted_all-none _ _ end) ∙ c.loop-message.invariant.counted

pub returns-clause-decided : goal.returns-clause-decided
returns-clause-decided c =
    let end = drop_all c.loop-message.message-index c.args.messages.now (omega (arith, c.loop-message-test.false, c.loop-message.auto.message-index-end)) in
    sym (decisions_all-none _ _ c.loop-message.decisions.items end) ∙ c.loop-message.invariant.decided
