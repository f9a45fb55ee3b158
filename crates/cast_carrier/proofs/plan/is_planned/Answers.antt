use Rattle.std.proofs.Common.{take, sym, subst, refl}
use Rattle.std.proofs.lemmas.List.{take_all}
use Rattle.std.proofs.lemmas.List.Elements.{All-more, All-same}
use Rattle.cast_message.specs.declared.plan.Fault.{Fault}
use Rattle.cast_carrier.specs.Plans.{IsPlanned}
use Rattle.cast_carrier.proofs.plan.is_planned.Goals as goal

pub loop-fault-preserved : goal.loop-fault-preserved
loop-fault-preserved c =
    let P : Fault → Type 0 = λ f. IsPlanned c.args.nodes f in
    let l = c.loop-fault in
    let f = c.fault-item.result in
    All-more P c.args.faults.now l.fault-index f c.loop-fault-test.true l.invariant (subst P c.fault-item.is (c.names_nodes.ensures.0 c.if-not-names_nodes.false))

pub returns : goal.returns
returns c =
    let P : Fault → Type 0 = λ f. IsPlanned c.args.nodes f in
    let l = c.loop-fault in
    let faults = c.args.faults.now in
    (λ yes. All-same P faults (take l.fault-index faults) (sym (take_all l.fault-index faults c.loop-fault-test.false)) l.invariant, λ all. refl)
