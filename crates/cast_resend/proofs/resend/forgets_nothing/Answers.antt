use Rattle.cast_resend.proofs.Laws.{all_remembered}
use Rattle.cast_resend.proofs.resend.forgets_nothing.Goals as goal

pub returns : goal.returns
returns c = all_remembered
