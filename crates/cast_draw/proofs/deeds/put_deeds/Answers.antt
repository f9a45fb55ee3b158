use Rattle.std.proofs.Common.{◌∙◌, ◌+◌, ap, arith, drop, map, sym}
use Rattle.std.proofs.lemmas.List.{take_rest}
use Rattle.std.specs.Prelude.{if◌then◌else◌}
use Rattle.cast_message.proofs.Results.{ok_of}
use Rattle.cast_draw.specs.declared.mark.Deed.TheVariants.{Decides}
use Rattle.cast_draw.proofs.DeedLemmas.{going_same, going_delivery, going_alone, going_brought, going_last, going_rest}
use Rattle.cast_draw.proofs.deeds.put_deeds.Goals as goal
use Rattle.cast_draw.proofs.deeds.put_deeds.Goals.{then-is_brought+in_ok-put_decision, else-is_brought}

pub loop-message-preserved : goal.loop-message-preserved
loop-message-preserved c =
    let deliveries = c.args.deliveries.now in
    let decisions = c.args.decisions.now in
    let i = c.loop-message.message-index in
    let k = c.loop-message.decided in
    let delivered = going_delivery deliveries (drop k decisions) i c.message-item.result c.put_delivery.new.marks c.loop-message-test.true c.message-item.is c.loop-message.invariant.going c.in_ok-put_delivery.ensures in
    elim c.if-is_brought.branch [
      | then-is_brought+in_ok-put_decision w ↦ rw (w.marks-is, w.decided-is) (record {
        within = omega (arith, c.is_brought.ensures.within w.if-is_brought.true);
        going = going_brought (drop (i + 1) deliveries) decisions k _ _ w.put_decision.new.marks (c.is_brought.ensures.count ∙ ap (λ b. if b then 1 else 0) w.if-is_brought.true)
            (c.is_brought.ensures.within w.if-is_brought.true) delivered w.in_ok-put_decision.ensures;
      })
      | else-is_brought w ↦ rw (w.marks-is, w.decided-is) (record {
        within = c.loop-message.invariant.within;
        going = going_alone (drop (i + 1) deliveries) (drop k decisions) _ (c.is_brought.ensures.count ∙ ap (λ b. if b then 1 else 0) w.if-is_brought.false) delivered;
      })
    ]

pub returns : goal.returns
returns c =
    let left = drop c.loop-message.decided c.args.decisions.now in
    let last = going_last c.args.deliveries.now left c.loop-message.message-index (omega (arith, c.loop-message-test.false)) c.loop-message.invariant.going in
    let all = going_same _ (ap (map Decides) (sym (take_rest c.args.decisions.now c.loop-message.decided))) last in
    ok_of c.put_decisions.result c.put_decisions.ensures (λ put. going_rest c.put_decisions.new.marks all put)
