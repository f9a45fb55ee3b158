use Rattle.std.proofs.Common.{◌≡◌, ap, length, map, rules}
use Rattle.cast_merge.specs.ByStamp.{event_at}
use Rattle.cast_merge.proofs.Fronts.{none_first, none_left}
use Rattle.cast_merge.proofs.merge.take_first.Goals as goal

pub returns-then-is_empty-clause-taken : goal.returns-then-is_empty-clause-taken
returns-then-is_empty-clause-taken c =
    let none : length c.args.firsts.now.items ≡ 0 = search rules in
    ap (map event_at) (none_left c.args.fronts.now.items (none_first c.args.fronts.now.items c.args.firsts.now.items c.requires none))
