use Rattle.std.proofs.Common.{[]}
use Rattle.cast_message.proofs.Results.{on_err}
use Rattle.cast_judge.proofs.WantLemmas.{wanted_first}
use Rattle.cast_judge.proofs.judging.judge.Goals as goal

pub returns-in_err-feed-clause-first : goal.returns-in_err-feed-clause-first
returns-in_err-feed-clause-first c =
    on_err _
    (wanted_first c.args.text.now c.new-judging.result c.feed.new.self c.new-judging.ensures.reading c.new-judging.ensures.stands
    (c.in_err-feed.ensures.wants [] c.new-judging.ensures.stands c.new-judging.ensures.reading))
