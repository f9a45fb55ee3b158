use Rattle.std.proofs.Common.{ap, subst}
use Rattle.crossbeam_queue.specs.Passes.{view as known}
use Rattle.cast_box.specs.Ends.{TakerEnd}
use Rattle.cast_box.specs.Lists.{HasTakenOfEnded}
use Rattle.cast_box.proofs.Closing.{taken_of_ended}
use Rattle.cast_box.proofs.Moves.{shows_ended}
use Rattle.cast_box.proofs.ends.Taker.is_still_empty.Goals as goal

pub is_empty_as-requires-clause-rule : goal.is_empty_as-requires-clause-rule
is_empty_as-requires-clause-rule g c = shows_ended _ _ (ap (λ v. v.role) c.self.invariant.1)

pub returns-then-self-clause-empty : goal.returns-then-self-clause-empty
returns-then-self-clause-empty g c empty =
    let P : TakerEnd g.row.T.Denot → Type 0 = λ t. HasTakenOfEnded t.ended t.taken in
    subst P c.self.view_is (taken_of_ended (known c.self.inside.pass) (c.is_empty_as.ensures.rule empty))
