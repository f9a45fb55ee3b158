use Rattle.std.proofs.Common.{ap, ◌∙◌}
use Rattle.cast_agree.specs.Counted.{counted_after, decision_by}
use Rattle.cast_agree.proofs.Maps.{same_seen}
use Rattle.cast_agree.proofs.Agree.delivered.Goals as goal

pub returns-clause-decision : goal.returns-clause-decision
returns-clause-decision c = c.count.ensures.decision ∙ ap (λ s. decision_by s c.args.sender c.args.item.now) (same_seen c.self.inside.quorum _ _ c.reserve.ensures.entries.2 ∙ c.self.view_is)

pub returns-clause-ok : goal.returns-clause-ok
returns-clause-ok c = c.count.ensures.after ∙ ap (λ s. counted_after s c.args.sender c.args.item.now) (same_seen c.self.inside.quorum _ _ c.reserve.ensures.entries.2 ∙ c.self.view_is)
