use Rattle.std.proofs.Common.{◌≤◌, length, rules}
use Rattle.cast_run.proofs.Counted.{counted_all, counted_done}
use Rattle.cast_run.proofs.reports.count_left.Goals as goal

pub returns : goal.returns
returns g c =
    let l = c.loop in
    let start = c.args.gathered.left in
    let past : length start ≤ l.counter = search rules in
    counted_done start l.left l.gathered.left l.counter l.invariant (counted_all start l.left l.gathered.left l.counter l.invariant past)
