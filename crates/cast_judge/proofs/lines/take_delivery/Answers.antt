use Rattle.cast_record.proofs.ItemWordLemmas.{from_on}
use Rattle.cast_judge.proofs.DueLemmas.{taken_off}
use Rattle.cast_judge.proofs.lines.take_delivery.Goals as goal

pub returns : goal.returns
returns c =
    taken_off c.args.bytes.now _ c.in-Some.delivery c.args.kept.now c.deliver.new.self c.in_ok-end.end c.in-Some.ensures.says c.in_ok-end.ensures (from_on c.in_ok-end.end c.in-Some.delivery.rest.now)
