use Rattle.std.proofs.Common.{ap}
use Rattle.cast_box.proofs.Moves.{shows_putter}
use Rattle.cast_box.proofs.ends.Putter.len.Goals as goal

pub len_as-requires-clause-rule : goal.len_as-requires-clause-rule
len_as-requires-clause-rule g c = shows_putter _ _ (ap (λ v. v.role) c.self.invariant.1)
