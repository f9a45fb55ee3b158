use Rattle.cast_box.proofs.Moves.{limits}
use Rattle.cast_box.proofs.opening.set_limits.Goals as goal

pub another-spent-requires-clause-rule : goal.another-spent-requires-clause-rule
another-spent-requires-clause-rule g c = limits _ _ _ _ c.requires.pass.1
