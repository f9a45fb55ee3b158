use Rattle.std.proofs.Common.{ap, ◌∙◌, subst}
use Rattle.std.specs.List.{filter}
use Rattle.cast_carrier.specs.Carriers.{is_early, is_due, HandsOnAll}
use Rattle.cast_carrier.proofs.carrier.pass_time.Goals as goal

pub returns-clause-waits : goal.returns-clause-waits
returns-clause-waits g c = c.release.ensures.waits ∙ ap (filter is_early) c.count_down.ensures

pub returns-clause-hands : goal.returns-clause-hands
returns-clause-hands g c = subst (λ l. HandsOnAll c.args.room c.args.inboxes.now.items (filter is_due l) c.release.new.inboxes.items) c.count_down.ensures c.release.ensures.hands
