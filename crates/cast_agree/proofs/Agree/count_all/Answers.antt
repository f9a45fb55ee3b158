use Rattle.std.proofs.Common.{◌++◌, ap, ◌∙◌}
use Rattle.cast_agree.specs.Journal.{counted_all, decisions_all}
use Rattle.cast_agree.proofs.Maps.{same_seen}
use Rattle.cast_agree.proofs.Agree.count_all.Goals as goal

pub returns-clause-decisions : goal.returns-clause-decisions
returns-clause-decisions c =
    c.count_each.ensures.decided ∙ (λ i. c.in_ok-decisions.ensures.items i ++ decisions_all ((same_seen c.self.inside.quorum _ _ c.reserve.ensures.entries.2 ∙ c.self.view_is) i) c.args.messages.now)

pub returns-clause-ok : goal.returns-clause-ok
returns-clause-ok c = c.count_each.ensures.counted ∙ ap (λ s. counted_all s c.args.messages.now) (same_seen c.self.inside.quorum _ _ c.reserve.ensures.entries.2 ∙ c.self.view_is)
