use Rattle.cast_merge.proofs.Decided.{tells_decisions, tells_proposals, tells_few_values}
use Rattle.cast_merge.proofs.tells_decisions.Goals as goal

pub returns : goal.returns
returns c = record {
  decided = tells_decisions;
  proposed = tells_proposals;
  few = tells_few_values;
}
