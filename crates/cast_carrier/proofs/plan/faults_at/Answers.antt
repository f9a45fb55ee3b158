use Rattle.std.proofs.Common.{◌≢◌, ◌∙◌, sym, [], rules}
use Rattle.std.specs.List.{filter}
use Rattle.cast_carrier.specs.Plans.{is_at}
use Rattle.cast_carrier.proofs.Lists.{read_at, some_pass}
use Rattle.cast_carrier.proofs.plan.faults_at.Goals as goal

pub returns-in_err-push-clause-err : goal.returns-in_err-push-clause-err
returns-in_err-push-clause-err c =
    let at = read_at c.args.faults.now c.loop-fault.fault-index c.fault-item.result c.loop-fault-test.true c.fault-item.is in
    let some : filter (is_at c.args.end c.args.node) c.args.faults.now ≢ [] =
    some_pass (is_at c.args.end c.args.node) c.loop-fault.fault-index c.args.faults.now c.fault-item.result at (sym c.is_at.ensures ∙ c.if-is_at.true) in
    search (rules, some)
