use Rattle.std.proofs.Common.{subst}
use Rattle.cast_model.specs.Headline.{DeliversPrefixes, DeliversNothingAfterClose, DecidesProposals}
use Rattle.cast_logfile.proofs.merging.merge_steps.Goals as goal

pub returns-clause-prefix : goal.returns-clause-prefix
returns-clause-prefix c = subst (λ es. DeliversPrefixes c.args.config es c.in_ok-world.replies) c.as_slice-2.ensures c.in_ok-world.ensures.prefix

pub returns-clause-closed : goal.returns-clause-closed
returns-clause-closed c = subst (λ es. DeliversNothingAfterClose es c.in_ok-world.replies) c.as_slice-2.ensures c.in_ok-world.ensures.closed

pub returns-clause-proposed : goal.returns-clause-proposed
returns-clause-proposed c = subst (λ es. DecidesProposals c.args.config es c.in_ok-world.replies) c.as_slice-2.ensures c.in_ok-world.ensures.proposed
