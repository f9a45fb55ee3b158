use Rattle.cast_box.proofs.Moves.{begins}
use Rattle.cast_box.proofs.opening.Opening.new.Goals as goal

pub ruled-requires-clause-rule : goal.ruled-requires-clause-rule
ruled-requires-clause-rule g c = begins
