use Rattle.std.proofs.Common.{◌++◌, drop, map}
use Rattle.cast_record.specs.declared.line.Line.TheVariants.{Decided, Delivered}
use Rattle.cast_record.specs.Lines.{outcome_lines}
use Rattle.cast_record.specs.Text.{record_text}
use Rattle.cast_record.proofs.WrittenLemmas.{IsGoing}
use Rattle.cast_record.proofs.event_lines.write_outcome.Given as goal

abbrev pub invariant-loop-message : goal.invariant-loop-message
invariant-loop-message g l = IsGoing (g.W.Write.contents l.fn.writer.inner) (g.W.Write.contents l.writer.inner) l.writer.failed
    (record_text (outcome_lines l.node l.outcome)) (record_text (map (Delivered l.node) (drop l.message-index l.message-items)) ++ record_text (map (Decided l.node) l.outcome.decisions))

abbrev pub invariant-loop-decision : goal.invariant-loop-decision
invariant-loop-decision g l = IsGoing (g.W.Write.contents l.fn.writer.inner) (g.W.Write.contents l.writer.inner) l.writer.failed
    (record_text (outcome_lines l.node l.outcome)) (record_text (map (Decided l.node) (drop l.decision-index l.decision-items)))
