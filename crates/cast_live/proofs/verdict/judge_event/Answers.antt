use Rattle.std.proofs.Common.{refl, sym, subst}
use Rattle.cast_model.specs.Replies.{reply}
use Rattle.cast_world.specs.Group.{Stands}
use Rattle.cast_live.proofs.VerdictLemmas.{silent_after, fed_nothing}
use Rattle.cast_live.proofs.verdict.judge_event.Goals as goal

pub returns-then-step_if_silent-clause-stands : goal.returns-then-step_if_silent-clause-stands
returns-then-step_if_silent-clause-stands c config past stands =
    let took = c.if-step_if_silent.ensures.took refl config past stands in
    subst (λ past. Stands config past c.step_if_silent.new.self) (sym (silent_after config past c.args.event.now took.0)) took.1

pub returns-then-step_if_silent-clause-judged : goal.returns-then-step_if_silent-clause-judged
returns-then-step_if_silent-clause-judged c config past stands text fed =
    fed_nothing c.args.index c.args.event.now (reply config past c.args.event.now) text c.args.judging.now (c.if-step_if_silent.ensures.took refl config past stands).0 fed
