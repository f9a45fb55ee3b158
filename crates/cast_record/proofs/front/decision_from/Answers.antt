use Rattle.std.proofs.Common.{sym}
use Rattle.cast_record.proofs.FrontLemmas.{decision_said}
use Rattle.cast_record.proofs.front.decision_from.Goals as goal

pub returns : goal.returns
returns c =
    decision_said c.args.rest.now c.in_ok-node.rest.now c.in_ok-instance.word.now c.in_ok-node.node c.in_ok-instance.instance c.in_ok-value.value
    c.in_ok-node.ensures c.in_ok-instance.ensures (sym c.in_ok-value.ensures.exact)
