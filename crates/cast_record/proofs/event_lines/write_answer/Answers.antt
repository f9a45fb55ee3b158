use Rattle.std.proofs.Common.{ap, ◌∙◌}
use Rattle.cast_message.specs.declared.event.Event.TheVariants.{Order}
use Rattle.cast_record.proofs.WrittenLemmas.{going_start, going_again, going_more, going_breaks, going_last}
use Rattle.cast_record.specs.Lines.{answer_lines}
use Rattle.cast_record.specs.Text.{record_text}
use Rattle.cast_record.proofs.event_lines.write_answer.Goals as goal

pub returns-in_err-write_broadcast-in-Order-Ordered : goal.returns-in_err-write_broadcast-in-Order-Ordered
returns-in_err-write_broadcast-in-Order-Ordered g c =
    let is = c.in-Order-Ordered in
    let parts = ap (λ e. record_text (answer_lines e c.args.answer.now)) is.is-0 ∙ ap (λ a. record_text (answer_lines (Order is.node is.item) a)) is.is-1 in
    going_breaks _ _ c.from_residual.result c.from_residual.ensures.1 (going_again (going_start c.requires) parts) c.in_err-write_broadcast-in-Order-Ordered.ensures

pub returns-in_ok-write_broadcast-in-Order-Ordered : goal.returns-in_ok-write_broadcast-in-Order-Ordered
returns-in_ok-write_broadcast-in-Order-Ordered g c =
    let is = c.in-Order-Ordered in
    let parts = ap (λ e. record_text (answer_lines e c.args.answer.now)) is.is-0 ∙ ap (λ a. record_text (answer_lines (Order is.node is.item) a)) is.is-1 in
    going_last _ _ c.write_outcome.result (going_more (going_again (going_start c.requires) parts) c.in_ok-write_broadcast-in-Order-Ordered.ensures) c.write_outcome.ensures
