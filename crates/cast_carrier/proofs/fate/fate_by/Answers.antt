use Rattle.std.proofs.Common.{◌∙◌, ◌<◌, ◌++◌, ◌∷◌, [], ap, sym, length, take, rules}
use Rattle.std.proofs.lemmas.List.{take_more}
use Rattle.cast_carrier.proofs.Suffering.{fate_none, fate_more}
use Rattle.cast_carrier.proofs.fate.fate_by.Goals as goal

pub loop-fault-init : goal.loop-fault-init
loop-fault-init c = fate_none c.args.frame.now

pub loop-fault-preserved : goal.loop-fault-preserved
loop-fault-preserved c =
    let l = c.loop-fault in
    let fs = c.args.faults.now in
    let f = c.fault-item.result in
    let within : l.fault-index < length fs = search rules in
    fate_more c.args.frame.now l.fault-index fs f l.fate _ l.invariant (take_more fs l.fault-index f within ∙ ap (λ x. take l.fault-index fs ++ x ∷ []) (sym c.fault-item.is)) c.suffer.ensures
