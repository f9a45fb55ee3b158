use Rattle.std.proofs.Common.{◌∙◌, ◌<◌, ◌++◌, ◌∷◌, [], ap, sym, length, take, None, rules}
use Rattle.std.proofs.lemmas.List.{take_all, take_more}
use Rattle.cast_carrier.specs.Plans.{crash_from}
use Rattle.cast_carrier.proofs.Crashing.{crash_none, crash_more, least_crash}
use Rattle.cast_carrier.proofs.plan.crash_of.Goals as goal

pub loop-fault-init : goal.loop-fault-init
loop-fault-init c = crash_none c.args.node

pub loop-fault-preserved : goal.loop-fault-preserved
loop-fault-preserved c =
    let l = c.loop-fault in
    let f = c.fault-item.result in
    let within : l.fault-index < length c.args.faults.now = search rules in
    crash_more c.args.node l.fault-index c.args.faults.now f l.crash _ l.invariant (take_more c.args.faults.now l.fault-index f within ∙ ap (λ x. take l.fault-index c.args.faults.now ++ x ∷ []) (sym c.fault-item.is)) c.crash_by-crash.ensures

pub returns-clause-least : goal.returns-clause-least
returns-clause-least c =
    let l = c.loop-fault in
    least_crash c.args.node c.args.faults.now _ (l.invariant ∙ ap (crash_from c.args.node None) (take_all l.fault-index c.args.faults.now c.loop-fault-test.false))
