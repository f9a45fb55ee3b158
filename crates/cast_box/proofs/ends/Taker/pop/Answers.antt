use Rattle.std.proofs.Common.{ap, subst}
use Rattle.crossbeam_queue.specs.Passes.{view as known}
use Rattle.cast_box.specs.Ends.{TakerEnd}
use Rattle.cast_box.specs.Lists.{HasTakenOfEnded}
use Rattle.cast_box.proofs.Closing.{taken_of_ended}
use Rattle.cast_box.proofs.Moves.{takes, shows_ended}
use Rattle.cast_box.proofs.ends.Taker.pop.Goals as goal

pub pop_as-requires-clause-rule : goal.pop_as-requires-clause-rule
pop_as-requires-clause-rule g c =
    let role = ap (λ v. v.role) c.self.invariant.1 in
    (takes _ _ role, shows_ended _ _ role)

pub returns-in-None-clause-empty : goal.returns-in-None-clause-empty
returns-in-None-clause-empty g c =
    let P : TakerEnd g.row.T.Denot → Type 0 = λ t. HasTakenOfEnded t.ended t.taken in
    subst P c.self.view_is (taken_of_ended (known c.self.inside.pass) c.in-None.ensures.rule.1)
