use Rattle.cast_script.proofs.ElementLemmas.{IsReading}
use Rattle.cast_script.proofs.element.read_elements.Given as goal

abbrev pub invariant-loop-i : goal.invariant-loop-i
invariant-loop-i g l = IsReading g.E.Element.element l.first l.elements l.i l.values
