use Rattle.cast_model.proofs.RoundFaults.{round_only_full}
use Rattle.cast_model.proofs.TwoRounds.{holds_all, holds_no_more, rests, two_rounds_rest}
use Rattle.cast_model.proofs.rests_after_two_rounds.Goals as goal

pub returns : goal.returns
returns c = record {
  refused = round_only_full;
  spread = holds_all;
  nothing_else = holds_no_more;
  rest = rests;
  two = two_rounds_rest;
}
