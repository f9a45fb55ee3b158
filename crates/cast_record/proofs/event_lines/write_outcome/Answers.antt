use Rattle.std.proofs.Common.{◌∙◌, ap, map, sym}
use Rattle.std.proofs.lemmas.List.{get_or_default}
use Rattle.cast_record.proofs.WrittenLemmas.{going_start, going_again, going_more, going_breaks}
use Rattle.cast_record.specs.declared.line.Line.TheVariants.{Decided, Delivered}
use Rattle.cast_record.specs.Text.{record_text}
use Rattle.cast_record.proofs.WritingLemmas.{outcome-parts, made-next, made-before, made-end}
use Rattle.cast_record.proofs.event_lines.write_outcome.Goals as goal

pub loop-message-init : goal.loop-message-init
loop-message-init g c = going_again (going_start c.requires) (outcome-parts c.args.node c.args.outcome.now c.as_slice-message-items.result.now c.as_slice-message-items.ensures)

pub returns-in_err-write_delivered : goal.returns-in_err-write_delivered
returns-in_err-write_delivered g c =
    let next = made-before (Delivered c.args.node) c.as_slice-message-items.result.now c.loop-message.message-index c.message-item.result (record_text (map (Decided c.args.node) c.args.outcome.now.decisions)) c.loop-message-test.true c.message-item.is in
    going_breaks _ _ c.from_residual.result c.from_residual.ensures.1 (going_again c.loop-message.invariant next) c.in_err-write_delivered.ensures

pub loop-message-preserved : goal.loop-message-preserved
loop-message-preserved g c =
    let next = made-before (Delivered c.args.node) c.as_slice-message-items.result.now c.loop-message.message-index c.message-item.result (record_text (map (Decided c.args.node) c.args.outcome.now.decisions)) c.loop-message-test.true c.message-item.is in
    going_more (going_again c.loop-message.invariant next) c.in_ok-write_delivered.ensures

pub loop-decision-init : goal.loop-decision-init
loop-decision-init g c =
    let decided = ap (λ ds. record_text (map (Decided c.args.node) ds)) (sym c.as_slice-decision-items.ensures) in
    going_again c.loop-message.invariant (made-end (Delivered c.args.node) c.as_slice-message-items.result.now c.loop-message.message-index _ c.loop-message-test.false ∙ decided)

pub returns-in_err-write_decided : goal.returns-in_err-write_decided
returns-in_err-write_decided g c =
    let decisions = c.as_slice-decision-items.result.now in
    let next = made-next (Decided c.args.node) decisions c.loop-decision.decision-index _ c.loop-decision-test.true (get_or_default decisions c.loop-decision.decision-index _ _ c.loop-decision-test.true) in
    going_breaks _ _ c.from_residual-in_err-write_decided.result c.from_residual-in_err-write_decided.ensures.1 (going_again c.loop-decision.invariant next) c.in_err-write_decided.ensures

pub loop-decision-preserved : goal.loop-decision-preserved
loop-decision-preserved g c =
    let decisions = c.as_slice-decision-items.result.now in
    let next = made-next (Decided c.args.node) decisions c.loop-decision.decision-index _ c.loop-decision-test.true (get_or_default decisions c.loop-decision.decision-index _ _ c.loop-decision-test.true) in
    going_more (going_again c.loop-decision.invariant next) c.in_ok-write_decided.ensures
