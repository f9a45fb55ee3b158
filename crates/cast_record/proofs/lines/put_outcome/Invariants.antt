use Rattle.std.proofs.Common.{◌≡◌, ◌++◌, map, take}
use Rattle.cast_record.specs.declared.line.Line.TheVariants.{Delivered, Decided}
use Rattle.cast_record.proofs.lines.put_outcome.Given as goal

abbrev pub invariant-loop-message : goal.invariant-loop-message
invariant-loop-message l = l.lines ≡ l.fn.lines ++ map (Delivered l.node) (take l.message-index l.outcome.deliveries)

abbrev pub invariant-loop-decision : goal.invariant-loop-decision
invariant-loop-decision l = l.lines ≡ (l.fn.lines ++ map (Delivered l.node) l.outcome.deliveries) ++ map (Decided l.node) (take l.decision-index l.outcome.decisions)
